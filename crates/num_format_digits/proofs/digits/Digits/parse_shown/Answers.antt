use Rattle.std.proofs.Common.{◌≡◌, inr, ℕ, ℤ, List, Option, Some, None, Ok, refl, rules, subst, sym, take, IsUtf8, MatchOption}
use Rattle.std.specs.Prelude.{IfSome}
use Rattle.std.proofs.lemmas.Str.{IsUtf8-nil}
use Rattle.num_format_int.specs.Kind.{Kind}
use Rattle.num_format_text.specs.Format.{FormatData}
use Rattle.num_format_parsing.specs.Shapes.{HasPlainSymbols}
use Rattle.num_format_parsing.specs.Strict.{IsUnambiguous, ParsesStrictly}
use Rattle.num_format_parsing.proofs.CommonLemmas.{of_printed}
use Rattle.num_format_parsing.proofs.SymbolLemmas.{plain-symbols}
use Rattle.num_format_decimal.specs.Ways.{numbers, placed}
use Rattle.num_format_digits.specs.Digits.{IsZero, in_digits}
use Rattle.num_format_digits.specs.Parsing.{InDigits}
use Rattle.num_format_digits.proofs.TextLemmas.{canonical_back}
use Rattle.num_format_digits.proofs.digits.Digits.parse_shown.Goals as goal

-- the number of a text that is shown
number : {A : Type 0} (R : Type 0) (k : Kind) (value : A → ℤ) (f d : FormatData) (z : ℕ) (t a : List ℕ) (result : Option A)
    → IsUnambiguous f → IsZero z → HasPlainSymbols f → d ≡ f → t ≡ in_digits z a
    → MatchOption result R (λ n. ParsesStrictly k value d a (Ok n))
    → IfSome result (λ n. IsUtf8 t × InDigits (numbers k value) placed f z t (Ok n))
number R k value f d z t a None takes is symbols format same parsed = tt
number R k value f d z t a (Some n) takes is symbols format same parsed =
    let read = subst (λ g. ParsesStrictly k value g a (Ok n)) format parsed in
    let back = canonical_back z f t a (value n) is symbols ((read.number (value n)).1 refl) same in
    (back.0, inr (takes, (back.1, subst (λ x. ParsesStrictly k value f x (Ok n)) (sym back.2) read)))

pub returns : goal.returns
returns g c =
    let f = g.F.Format.answers c.args.format.now in
    let symbols = plain-symbols f c.in-Ok.ensures.1 (search rules) (of_printed IsUtf8 IsUtf8-nil f.grouping f.separator (search rules)) in
    number _ g.N.Sealed.kind g.N.Sealed.value f _ c.args.self c.args.text.now (take c.in_ok-len.len c.take_text.new.array) c.number.result
    c.in-Ok.ensures.1 c.take_text.ensures.set symbols c.in-Ok.ensures.0 c.in_ok-len.ensures.shown c.number.ensures
