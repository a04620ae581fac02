use Rattle.std.proofs.Common.{◌≡◌, ◌∙◌, inr, ap, take, take_all, sym, subst, arith}
use Rattle.std.specs.Char.{is_ascii_digit}
use Rattle.std.specs.List.{list_all}
use Rattle.num_format_parsing.specs.Parts.{HasDigits}
use Rattle.num_format_parsing.proofs.GroupsLemmas.{plain-all}
use Rattle.num_format_parsing.proofs.groups.read_text.Goals as goal

pub returns-then-first-text : goal.returns-then-first-text
returns-then-first-text g c =
    let t = c.args.text.now in
    let first = c.read_digits-first.result in
    let read = c.read_digits-first.ensures in
    let all : take first.digit_count t ≡ t = take_all first.digit_count t (omega (arith, c.if-first-text.true)) in (
      inr (plain-all t (ap (list_all is_ascii_digit) (sym all) ∙ read.digits)),
      subst (λ x. HasDigits g.A.Accumulator.bound x first.digit_count (g.A.Accumulator.number first.magnitude)) all read.read,
    )
