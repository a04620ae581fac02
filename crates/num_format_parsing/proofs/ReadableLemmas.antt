-- Which texts parse as numbers under a format.
use Rattle.std.proofs.Common.{◌≡◌, ℕ, ◌+◌, ◌^◌, ◌<◌, ◌≤◌, true, List, length, Result, Ok, Err, Decides, if◌then◌else◌, refl, ap, arith}
use Rattle.std.specs.Prelude.{ℤ, pos, negsuc, IfOk, IfErr, not}
use Rattle.std.specs.List.{list_any}
use Rattle.std.specs.Result.{result_map_both}
use Rattle.std.specs.Str.{chars}
use Rattle.std.proofs.lemmas.Bool.{both_ways, false_from_ne_true, le-leb, leb-true, not-true, not_from_false, true_from_ne_false}
use Rattle.std.proofs.lemmas.Int.{ints}
use Rattle.std.proofs.lemmas.Bool.Decides.{Decides-and, Decides-ltb}
use Rattle.num_format_int.specs.Kind.{IsValueOf, signed}
use Rattle.num_format_parsing.specs.Reading.{Refused, denoted, text_digits, is_negative_text, is_other_numeral}
use Rattle.num_format_text.specs.Cut.{cut_text}
use Rattle.num_format_text.specs.Format.{FormatData}
use Rattle.num_format_text.specs.Refusal.{ParseNumber, refusal_of}
use Rattle.num_format_text.specs.declared.error.Error.{Error}
use Rattle.num_format_parsing.specs.Readable.{fits_i128, is_readable, number_read}
use Rattle.num_format_parsing.proofs.SymbolLemmas.{some_first}

-- the values of an i128 are the numbers that pass the test
fits-from_value : (z : ℤ) → IsValueOf (signed 127 40) z → fits_i128 z ≡ true
fits-from_value (pos n) value = (Decides-ltb n (2 ^ 127)).1 (let below = value.below in omega (arith, ints))
fits-from_value (negsuc n) value = (Decides-ltb n (2 ^ 127)).1 (let above = value.above in omega (arith, ints))

pub value-from_fits : (z : ℤ) → fits_i128 z ≡ true → IsValueOf (signed 127 40) z
value-from_fits (pos n) fits = let within = (Decides-ltb n (2 ^ 127)).0 fits
    in record { above = omega (arith, ints); below = omega (arith, ints); zero = λ _. refl }
value-from_fits (negsuc n) fits = let within = (Decides-ltb n (2 ^ 127)).0 fits
    in record { above = omega (arith, ints); below = omega (arith, ints); zero = λ _. refl }

module _ (format : FormatData) (text : List ℕ) where
  -- the test is the four conditions
  readable-Decides : Decides (is_readable format text)
      ((0 < length (text_digits text)) × ((not (list_any is_other_numeral (chars text)) ≡ true)
      × ((length (text_digits text) + (if is_negative_text format text then 1 else 0) ≤ 40) × (fits_i128 (denoted format text) ≡ true))))
  readable-Decides =
      Decides-and _ _ (Decides-ltb 0 _) (Decides-and _ _ (λ yes. yes, λ yes. yes)
      (Decides-and _ _ (λ yes. leb-true _ _ yes, λ few. le-leb _ _ few) (λ yes. yes, λ yes. yes)))

  -- a text that is not refused passes the test
  pub readable-from_accepted : ¬ (Refused (signed 127 40) format text) → is_readable format text ≡ true
  readable-from_accepted accepted =
      let few : 40 < length (text_digits text) + (if is_negative_text format text then 1 else 0) → ⊥ =
      λ many. accepted (Refused.too_many_digits many) in
      readable-Decides.1 (
        some_first _ (λ none. accepted (Refused.no_digit none)),
        (
          not_from_false _ (false_from_ne_true _ (λ some. accepted (Refused.other_numeral some))),
          (
            omega arith,
            true_from_ne_false _ (λ no. accepted (Refused.no_value (λ value. both_ways _ no (fits-from_value _ value.value)))),
          ),
        ),
      )

  -- a text that is refused does not
  pub unreadable-from_refused : Refused (signed 127 40) format text → is_readable format text ≡ true → ⊥
  unreadable-from_refused (Refused.no_digit none) readable = let some = (readable-Decides.0 readable).0
      in absurd (omega (arith, ap length none))
  unreadable-from_refused (Refused.other_numeral some) readable = both_ways _ (not-true _ (readable-Decides.0 readable).1.0) some
  unreadable-from_refused (Refused.too_many_digits many) readable = let few = (readable-Decides.0 readable).1.1.0 in omega arith
  unreadable-from_refused (Refused.no_value none) readable =
      none (record { sign = λ _. refl; value = value-from_fits _ (readable-Decides.0 readable).1.1.1 })

  -- the definition is what `parse_formatted` returns
  pub number_read_from_parse : (r : Result ℤ Error) → IfOk r (λ n. n ≡ denoted format text)
      → IfOk r (λ _. ¬ (Refused (signed 127 40) format text)) →
      IfErr r (λ _. Refused (signed 127 40) format text) → IfErr r (λ e. refusal_of e ≡ ParseNumber (cut_text text)) →
      result_map_both (λ n. n) refusal_of r ≡ number_read format text
  number_read_from_parse (Ok n) number accepted refused error = rw (readable-from_accepted accepted) (ap Ok number)
  number_read_from_parse (Err e) number accepted refused error = rw (false_from_ne_true _ (unreadable-from_refused refused)) (ap Err error)
