-- Examples of formats that print numbers alike, and of some that do not, each proved by computing it.
use Rattle.std.proofs.Common.{◌≡◌, ℕ, List, [], length, refl, ap, sym, ◌∙◌, arith, pos, negsuc}
use Rattle.std.specs.Prelude.{codes}
use Rattle.num_format_text.specs.declared.grouping.Grouping.TheVariants.{Standard, Indian, Posix, Myriad}
use Rattle.num_format_text.specs.English.{english_with}
use Rattle.num_format_int.specs.Digits.{digits}
use Rattle.num_format_certificates.specs.Alike.{Alike, PrintsAlike}
use Rattle.num_format_certificates.specs.Laws.{FourNeededLaw}
use Rattle.num_format_certificates.proofs.AlikeLemmas.{alike_law}

-- two texts are alike that compute to one
computed : (x y text : List ℕ) → x ≡ text → y ≡ text → x ≡ y
computed x y text first second = first ∙ sym second

-- none of the four numbers that decide can be left out
pub four_needed_law : FourNeededLaw
unfolding digits
four_needed_law = record {
  thousand = (λ same. absurd (omega (arith, ap length same)), refl, refl, refl);
  hundred_thousand = (refl, λ same. absurd (omega (arith, ap length same)), computed _ _ (codes "100000000") refl refl, refl);
  million = (refl, refl, λ same. absurd (omega (arith, ap length same)), refl);
  minus_one = (refl, refl, refl, λ same. absurd (omega (arith, ap length same)));
}

-- of 1000, 100000 and -1, Indian grouping with the separator 0 and Standard with 00 differ at 1000 alone: 10000 and 100000
thousand_is_needed_for_digits :
    let f = english_with Indian (codes "0") (codes "-") in
    let g = english_with Standard (codes "00") (codes "-") in
    PrintsAlike f g (pos 100000) × PrintsAlike f g (negsuc 0) × ¬ (PrintsAlike f g (pos 1000))
unfolding digits
thousand_is_needed_for_digits = (refl, refl, λ same. absurd (omega (arith, ap length same)))

-- Posix grouping never shows its separator, nor does Myriad grouping show the empty one
without_separators :
    let f = english_with Posix (codes ",") (codes "-") in
    Alike f (english_with Standard [] (codes "-")) × Alike (english_with Myriad [] (codes "-")) f
unfolding digits
without_separators =
    let f = english_with Posix (codes ",") (codes "-") in (
      (alike_law f (english_with Standard [] (codes "-"))).1 (refl, refl, refl, refl),
      (alike_law (english_with Myriad [] (codes "-")) f).1 (refl, refl, refl, refl),
    )
