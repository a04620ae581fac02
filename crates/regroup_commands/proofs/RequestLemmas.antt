-- Which texts std's `parse` accepts.
use Rattle.std.proofs.Common.{◌≡◌, ℕ, ◌^◌, Bool, true, false, List, [], ◌∷◌, length, refl, ap, Some, None, Result, Ok, Err, Decides}
use Rattle.std.specs.Prelude.{ℤ, pos, negsuc, if◌then◌else◌, FitsSigned}
use Rattle.std.specs.Char.{is_digit, digit_value}
use Rattle.std.specs.Int.{w128}
use Rattle.std.specs.List.{list_all}
use Rattle.std.specs.Result.{result_ok}
use Rattle.std.specs.Str.Parse.{AllDigits, ParsesSigned, signed_digits_value, without_leading_sign}
use Rattle.std.proofs.lemmas.Bool.Decides.{Decides-and, Decides-like, Decides-ltb}
use Rattle.num_format.specs.Readable.{fits_i128}
use Rattle.regroup_commands.specs.Request.{number_in}

-- the tests decide what std says of `parse`
all_digits-Decides : (text : List ℕ) → Decides (list_all (λ c. is_digit c 10) text) (AllDigits 10 text)
all_digits-Decides [] = (λ _. tt, λ _. refl)
all_digits-Decides (c ∷ cs) = Decides-and _ _ (Decides-ltb (digit_value c) 10) (all_digits-Decides cs)

fits_i128-Decides : (z : ℤ) → Decides (fits_i128 z) (FitsSigned w128 z)
fits_i128-Decides (pos n) = Decides-like _ (λ h. record { sfits = h }) (λ h. h.sfits) (Decides-ltb n (2 ^ 127))
fits_i128-Decides (negsuc n) = Decides-like _ (λ h. record { sfits = h }) (λ h. h.sfits) (Decides-ltb n (2 ^ 127))

-- the value of an `if` whose test passes, and of one whose test fails
if_passes : (test : Bool) (z number : ℤ) → test ≡ true → z ≡ number → Some z ≡ (if test then Some number else None)
if_passes true z number passes same = ap (λ n. Some n) same
if_passes false z number passes same = absurd (cc)

unless_passes : (test : Bool) (number : ℤ) → (test ≡ true → ⊥) → None ≡ (if test then Some number else None)
unless_passes true number fails = absurd (fails refl)
unless_passes false number fails = refl

-- the definition is what `parse` returns
pub number_in_from_parse : {E : Type 0} (text : List ℕ) (r : Result ℤ E) → ParsesSigned w128 10 text r → result_ok r ≡ number_in text
number_in_from_parse text (Ok z) parsed =
    let passes =
    Decides-and _ _ (Decides-and _ _ (Decides-ltb 0 (length (without_leading_sign text)))
    (all_digits-Decides (without_leading_sign text)))
    (fits_i128-Decides (signed_digits_value 10 text)) in
    if_passes _ z _ (passes.1 parsed.0) parsed.1
number_in_from_parse text (Err e) parsed =
    let passes =
    Decides-and _ _ (Decides-and _ _ (Decides-ltb 0 (length (without_leading_sign text)))
    (all_digits-Decides (without_leading_sign text)))
    (fits_i128-Decides (signed_digits_value 10 text)) in
    unless_passes _ _ (λ true. parsed (passes.0 true))
