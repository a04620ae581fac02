-- The number in the text of a line.
use Rattle.regroup_lines.proofs.Common.{StrictError, Result, DecimalResult, NotationData}
use Rattle.regroup_lines.proofs.Common.{Err, fixed_point, FixedPoint, FormatData, HasUtf8Texts, IsUtf8, IsUtf8-from_is_utf8}
use Rattle.regroup_lines.proofs.Common.{List, Ok, Option, ParsesDecimal, Refused, Some, ap, cases_Bool, decimal_read}
use Rattle.regroup_lines.proofs.Common.{decimal_written, denoted, false, false_from_ne_true, if◌then◌else◌, inl, inr, is_utf8}
use Rattle.regroup_lines.proofs.Common.{is_utf8-from_IsUtf8, number_text, refl, text_fault, None, typed_read}
use Rattle.regroup_lines.proofs.Common.{whole_read, ℕ, ℤ, ◌∙◌, ◌≡◌}
use Rattle.num_format.specs.Kind.{signed}
use Rattle.num_format.specs.ParseBytesError.{ParseBytesError}
use Rattle.num_format.specs.ParseBytesError.TheVariants.{NotANumber, NotUtf8}
use Rattle.num_format.proofs.ReadableLemmas.{readable-from_accepted, unreadable-from_refused}
use Rattle.num_format_typed.specs.Typed.{TypedDecimalResult}
use Rattle.num_format_typed.specs.declared.error.TypedError.{TypedError}
use Rattle.regroup_faults.proofs.DecimalLemmas.{decimal_read-is, decimal_read-none, decimal_read-parsed, parsed-utf8}
use Rattle.regroup_faults.proofs.TypedLemmas.{typed-utf8, typed_read-is}
use Rattle.std.specs.Result.{result_ok}

-- what is read of a text that is UTF-8
abbrev of_utf8 : List ℕ → Option FixedPoint → Option FixedPoint
of_utf8 text decimal = if is_utf8 text then decimal else None

none-of_utf8 : (text : List ℕ) → None ≡ of_utf8 text None
none-of_utf8 text = elim (cases_Bool (is_utf8 text)) [ inl is ↦ rw is refl | inr other ↦ rw other refl ]

-- what is written of it
module _ (to : NotationData) (number : ℕ) (text : List ℕ) (decimal : Option FixedPoint) where
  pub written-some : (d : FixedPoint) → Some d ≡ of_utf8 text decimal → decimal_written decimal to number text ≡ Ok (number_text to d)
  written-some d is = elim (cases_Bool (is_utf8 text)) [
    | inl valid ↦ (let here : Some d ≡ decimal = is ∙ rw valid refl in rw (valid, ← here) refl)
    | inr other ↦ (let wrong : Some d ≡ None = is ∙ rw other refl in absurd (cc))
  ]

  pub written-none : None ≡ of_utf8 text decimal → decimal_written decimal to number text ≡ Err (text_fault number text)
  written-none is = elim (cases_Bool (is_utf8 text)) [
    | inl valid ↦ (let here : None ≡ decimal = is ∙ rw valid refl in rw (valid, ← here) refl)
    | inr other ↦ rw other refl
  ]

module _ (from : FormatData) (text : List ℕ) where
  pub strict-refused : HasUtf8Texts from → ((d : FixedPoint) → ¬ (ParsesDecimal from text d)) → None ≡ of_utf8 text (decimal_read from text)
  strict-refused utf8 refused = rw (decimal_read-none from utf8 text refused) (none-of_utf8 text)

  pub strict-read : HasUtf8Texts from → (r : Result FixedPoint StrictError) → DecimalResult from text r
      → result_ok r ≡ of_utf8 text (decimal_read from text)
  strict-read utf8 (Ok d) result =
      let parsed = (result.decimal d).0 refl in
      rw (is_utf8-from_IsUtf8 text (parsed-utf8 from utf8 text d parsed), decimal_read-parsed from utf8 text d parsed) refl
  strict-read utf8 (Err e) result = rw (decimal_read-is from utf8 text (Err e) result) (none-of_utf8 text)

  -- as a person types it
  pub typed-read : HasUtf8Texts from → (r : Result FixedPoint (TypedError StrictError)) → TypedDecimalResult from text r
      → result_ok r ≡ of_utf8 text (typed_read from text)
  typed-read utf8 (Ok d) result =
      let is = typed-utf8 from utf8 text d result in
      rw (is_utf8-from_IsUtf8 text is, typed_read-is from utf8 text is (Ok d) result) refl
  typed-read utf8 (Err e) result =
      elim (cases_Bool (is_utf8 text)) [
        | inl is ↦ rw (is, typed_read-is from utf8 text (IsUtf8-from_is_utf8 text is) (Err e) result) refl
        | inr other ↦ rw other refl
      ]

  -- and leniently
  pub lenient-accepted : (n : ℤ) → n ≡ denoted from text → IsUtf8 text × ¬ (Refused (signed 127 40) from text)
      → Some (fixed_point n 0) ≡ of_utf8 text (whole_read from text)
  lenient-accepted n is accepted =
      rw (is_utf8-from_IsUtf8 text accepted.0, readable-from_accepted from text accepted.1) (ap (λ n. Some (fixed_point n 0)) is)

  pub lenient-refused : (e : ParseBytesError) → (e ≡ NotUtf8 → ¬ (IsUtf8 text))
      → (e ≡ NotANumber → IsUtf8 text × Refused (signed 127 40) from text) →
      None ≡ of_utf8 text (whole_read from text)
  lenient-refused NotUtf8 invalid cause =
      let no : is_utf8 text ≡ false = false_from_ne_true (is_utf8 text) (λ yes. invalid refl (IsUtf8-from_is_utf8 text yes)) in
      rw no refl
  lenient-refused NotANumber invalid cause =
      let parsed : IsUtf8 text × Refused (signed 127 40) from text = cause refl in
      rw (is_utf8-from_IsUtf8 text parsed.0, false_from_ne_true _ (unreadable-from_refused from text parsed.1)) refl
