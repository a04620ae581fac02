use Rattle.std.proofs.Common.{◌≡◌, rules, refl, ap, ◌∙◌, arith}
use Rattle.std.specs.Ordering.{nat_cmp}
use Rattle.std.specs.Cmp.Lexicographic.{slice_cmp}
use Rattle.num_format_locale.specs.Search.{hyphen_for_underscore}
use Rattle.std.proofs.lemmas.Iterator.{YieldsList-from_slice, YieldsList-from_map}
use Rattle.std.proofs.lemmas.Iterator.Consumers.{YieldsList-from_copied}
use Rattle.std.proofs.lemmas.Iterator.Search.{cmp_from_yields_List}
use Rattle.num_format_locale.proofs.NameLemmas.{name_at}
use Rattle.num_format_locale.proofs.search.compare.Goals as goal

pub returns : goal.returns
returns c =
    cmp_from_yields_List (λ x y. y ≡ x) _ nat_cmp _ c.cmp.ensures.ran
    (YieldsList-from_map _ hyphen_for_underscore (YieldsList-from_slice c.args.text.now (cc)) (cc) (λ x r q k. search rules))
    (λ it e. YieldsList-from_copied (YieldsList-from_slice c.as_bytes-name.result.now (cc)))
    (λ x y. refl)
    ∙ ap (slice_cmp nat_cmp _) (c.as_bytes-name.ensures.value ∙ name_at _ _ _ c.names.ensures.listed (omega (arith, c.names.ensures.count)))
