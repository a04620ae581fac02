-- The definitions of what a person means by a text are what typed parsing returns.
use Rattle.std.proofs.Common.{Decides, Err, IsUtf8, List, Ok, Result, [], arith, false, length, refl, ℕ, ◌≡◌}
use Rattle.std.proofs.lemmas.Bool.{false_from_ne_true, le-leb, leb-true, lt-ltb, ltb-true, not-true, not_from_false}
use Rattle.std.proofs.lemmas.Bool.Decides.{Decides-and, Decides-like, Decides-not}
use Rattle.std.proofs.lemmas.Slice.Eq.{bytes_eq-Decides}
use Rattle.std.specs.Prelude.{nat_le, nat_lt}
use Rattle.std.specs.Result.{result_ok}
use Rattle.num_format.specs.Format.{FormatData, HasUtf8Texts}
use Rattle.num_format_decimal.specs.FixedPoint.{FixedPoint}
use Rattle.num_format_decimal.specs.Marks.{MarksDecimals}
use Rattle.num_format_decimal.specs.Parsing.{DecimalResult}
use Rattle.num_format_decimal.specs.declared.buffer.TheConstants.{MAX_DECIMAL_LEN}
use Rattle.num_format_parsing.specs.declared.error.StrictError.{StrictError}
use Rattle.num_format_parsing.specs.declared.error.StrictError.TheVariants as strict
use Rattle.num_format_decimal.specs.Ways.{placed}
use Rattle.num_format_typed.specs.Typed.{IsTypable, TypedDecimalResult, TypedResult, core_of, map_error, place_in}
use Rattle.num_format_typed.specs.Typed.{typed_text}
use Rattle.num_format_typed.specs.declared.error.TypedError.{TypedError}
use Rattle.num_format_typed.specs.declared.error.TypedError.TheVariants.{Number, TooLong}
use Rattle.regroup_faults.proofs.DecimalLemmas.{decimal_read-is, marks-Decides, plain-marks, why-is, why-parsed}
use Rattle.regroup_faults.specs.Decimals.{typed_read, types_decimals}
use Rattle.regroup_faults.specs.Messages.{why_in, why_placed, why_refused, why_untyped}
use Rattle.regroup_faults.specs.declared.message.Why.{Why}
use Rattle.regroup_faults.specs.declared.message.Why.TheVariants as why

-- what a result says
abbrev pub why_result : Result FixedPoint (TypedError StrictError) → Why
why_result (Ok d) = why.Unknown
why_result (Err TooLong) = why.TooLong
why_result (Err (Number e)) = why_in e

in-placed : (place : ℕ → ℕ) (e : StrictError) → why_placed place (λ c. c) (why_in e) ≡ why_in (placed place e)
in-placed place (strict.Unexpected at) = refl
in-placed place strict.Misspelled = refl
in-placed place e = refl

module _ (f : FormatData) (utf8 : HasUtf8Texts f) where
  types-Decides : Decides (types_decimals f) (IsTypable f × MarksDecimals f)
  unfolding types_decimals
  types-Decides =
      Decides-like _
      (λ h. (
        record {
          unambiguous = (plain-marks f utf8 h.0).marks.unambiguous;
          separator = h.1.0.0;
          mark = h.1.0.1;
          given = h.1.1.0;
          seen = h.1.1.1.0;
          no_plus = h.1.1.1.1.0;
          apart = h.1.1.1.1.1;
        },
        h.0,
      ))
      (λ both. (both.1, ((both.0.separator, both.0.mark), (both.0.given, (both.0.seen, (both.0.no_plus, both.0.apart))))))
      (Decides-and _ _ (marks-Decides f utf8)
      (Decides-and _ _ (Decides-and _ _ (λ yes. yes, λ yes. yes) (λ yes. yes, λ yes. yes))
      (Decides-and _ _ (Decides-not _ (bytes_eq-Decides (core_of f) []))
      (Decides-and _ _ (not-true _, not_from_false _)
      (Decides-and _ _ (not-true _, not_from_false _) (not-true _, not_from_false _))))))

  module _ (t : List ℕ) where
    -- a text that is typed for a number is UTF-8
    pub typed-utf8 : (d : FixedPoint) → TypedDecimalResult f t (Ok d) → IsUtf8 t
    typed-utf8 d (TypedResult.format_refused not is) = absurd (cc is)
    typed-utf8 d (TypedResult.no_text taken not is) = absurd (cc is)
    typed-utf8 d (TypedResult.too_long taken text long is) = absurd (cc is)
    typed-utf8 d (TypedResult.typed taken text short strict second is) = text

    pub typed_read-is : IsUtf8 t → (r : Result FixedPoint (TypedError StrictError)) → TypedDecimalResult f t r
        → typed_read f t ≡ result_ok r
    unfolding typed_read
    typed_read-is text r (TypedResult.format_refused not is) =
        rw (false_from_ne_true (types_decimals f) (λ yes. not (types-Decides.0 yes)), is) refl
    typed_read-is text r (TypedResult.no_text taken not is) = absurd (not text)
    typed_read-is text r (TypedResult.too_long taken utf8_text long is) =
        let many : nat_le (length (typed_text f t)) MAX_DECIMAL_LEN ≡ false =
        false_from_ne_true _ (λ few. omega (arith, leb-true _ _ few, long)) in
        rw (types-Decides.1 taken, many, is) refl
    typed_read-is text r (TypedResult.typed taken utf8_text short (Ok d) second is) =
        rw (types-Decides.1 taken, le-leb _ _ short, decimal_read-is f utf8 (typed_text f t) (Ok d) second, is) refl
    typed_read-is text r (TypedResult.typed taken utf8_text short (Err e) second is) =
        rw (types-Decides.1 taken, le-leb _ _ short, decimal_read-is f utf8 (typed_text f t) (Err e) second, is) refl

    why-strict : (strict : Result FixedPoint StrictError) → DecimalResult f (typed_text f t) strict
        → (r : Result FixedPoint (TypedError StrictError)) → r ≡ map_error (placed (place_in f t)) strict
        → why_placed (place_in f t) (λ c. c) (why_refused f (typed_text f t)) ≡ why_result r
    why-strict (Ok d) second r is = rw (why-parsed f utf8 (typed_text f t) d ((second.decimal d).0 refl), is) refl
    why-strict (Err e) second r is = rw (why-is f utf8 (typed_text f t) e ((second.refused e).0 refl), is) (in-placed (place_in f t) e)

    pub why_untyped-is : IsUtf8 t → (r : Result FixedPoint (TypedError StrictError)) → TypedDecimalResult f t r
        → why_untyped f t ≡ why_result r
    unfolding why_untyped
    why_untyped-is text r (TypedResult.format_refused not is) =
        rw (false_from_ne_true (types_decimals f) (λ yes. not (types-Decides.0 yes)), is) refl
    why_untyped-is text r (TypedResult.no_text taken not is) = absurd (not text)
    why_untyped-is text r (TypedResult.too_long taken utf8_text long is) =
        rw (types-Decides.1 taken, lt-ltb _ _ long, is) refl
    why_untyped-is text r (TypedResult.typed taken utf8_text short strict second is) =
        let few : nat_lt MAX_DECIMAL_LEN (length (typed_text f t)) ≡ false =
        false_from_ne_true _ (λ many. omega (arith, ltb-true _ _ many, short)) in
        rw (types-Decides.1 taken, few) (why-strict strict second r is)
