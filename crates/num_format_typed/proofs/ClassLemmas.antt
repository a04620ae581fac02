-- Digits are of no class.
use Rattle.std.proofs.Common.{◌≡◌, ℕ, ◌<◌, true, false, ◌&&◌, refl, sym, ap, ◌∙◌, arith}
use Rattle.std.specs.Char.{is_ascii_digit}
use Rattle.std.proofs.lemmas.Bool.{agree_below, agree_below_at}
use Rattle.std.proofs.lemmas.Bool.Decides.{nat_tests}
use Rattle.num_format_typed.specs.Classes.{is_of}
use Rattle.num_format_typed.specs.declared.classes.Class.{Class}
use Rattle.num_format_typed.specs.declared.classes.Class.TheVariants.{Space, Apostrophe, Comma, Point, Minus, Plus, Direction, End}

none_below : (k : Class) → agree_below (λ c. is_ascii_digit c && is_of k c) (λ c. false) 58 ≡ true
none_below Space = refl
none_below Apostrophe = refl
none_below Comma = refl
none_below Point = refl
none_below Minus = refl
none_below Plus = refl
none_below Direction = refl
none_below End = refl

pub of-digit : (k : Class) (c : ℕ) → is_ascii_digit c ≡ true → is_of k c ≡ false
of-digit k c digit =
    let below : c < 58 = grind (arith, nat_tests) in
    sym (ap (λ b. b && is_of k c) digit) ∙ agree_below_at (λ c. is_ascii_digit c && is_of k c) (λ c. false) 58 c (none_below k) below
