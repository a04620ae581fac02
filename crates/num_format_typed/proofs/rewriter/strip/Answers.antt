use Rattle.std.proofs.Common.{◌≡◌, ◌∙◌, ap, sym, true}
use Rattle.std.specs.Prelude.{nat_eq}
use Rattle.std.specs.List.{starts_with}
use Rattle.num_format_typed.proofs.SignLemmas.{boundary-past}
use Rattle.num_format_typed.proofs.rewriter.strip.Goals as goal

pub range_from-requires : goal.range_from-requires
range_from-requires c = λ some.
    let text = c.args.text.now in
    let prefix = c.args.prefix.now in
    let begins : starts_with nat_eq text prefix ≡ true =
    ap (λ t. starts_with nat_eq t prefix) (sym c.as_bytes.ensures.value)
    ∙ ap (starts_with nat_eq c.as_bytes.result.now) (sym c.as_bytes-2.ensures.value)
    ∙ sym c.is_prefix.ensures ∙ c.if-not-is_prefix.false in
    boundary-past text prefix c.utf8.text c.utf8.prefix begins
