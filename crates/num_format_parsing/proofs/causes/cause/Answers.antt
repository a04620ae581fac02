use Rattle.std.proofs.Common.{◌≡◌, ℕ, List, ◌∙◌, ap, sym, drop, IsUtf8}
use Rattle.std.proofs.lemmas.List.{drop_all}
use Rattle.num_format_text.specs.Format.{FormatData}
use Rattle.num_format_int.specs.Grouped.{printed_separator}
use Rattle.num_format_parsing.specs.Strict.{sign_len, unexpected, unread}
use Rattle.num_format_parsing.proofs.DigitLemmas.{text_digits-bytes, text_digits-none, text_digits-some}
use Rattle.num_format_parsing.proofs.causes.cause.Goals as goal

rest-at : (f : FormatData) (s t : List ℕ) (start at : ℕ) → s ≡ printed_separator f.grouping f.separator → start ≡ sign_len f t
    → unread s 0 (drop start t) ≡ drop at t → unexpected f t ≡ drop at t
rest-at f s t start at separator long rest = ap (λ k. unread (printed_separator f.grouping f.separator) 0 (drop k t)) (sym long)
    ∙ ap (λ x. unread x 0 (drop start t)) (sym separator) ∙ rest

pub returns-then-not-has_digit : goal.returns-then-not-has_digit
returns-then-not-has_digit c = λ f symbols separator start none k.
    let t = c.args.bytes.now in
    let utf8 : IsUtf8 t = c.is_utf8.ensures.0 c.if-not-is_utf8.false in
    let rest = rest-at f c.args.separator.now t c.args.start c.expected_end-at.result separator start c.expected_end-at.ensures.rest
    ∙ drop_all c.expected_end-at.result t c.if-at-bytes.false in (
      symbols.unambiguous,
      record {
        expected = record { utf8 = utf8; rest = rest };
        none = text_digits-bytes t utf8 ∙ text_digits-none t (sym c.has_digit.ensures ∙ c.if-not-has_digit.true);
      },
    )

pub returns : goal.returns
returns c = λ f symbols separator start none k.
    let t = c.args.bytes.now in
    let utf8 : IsUtf8 t = c.is_utf8.ensures.0 c.if-not-is_utf8.false in
    let rest = rest-at f c.args.separator.now t c.args.start c.expected_end-at.result separator start c.expected_end-at.ensures.rest
    ∙ drop_all c.expected_end-at.result t c.if-at-bytes.false in
    let some = text_digits-some t (sym c.has_digit.ensures ∙ c.if-not-has_digit.false) in (
      symbols.unambiguous,
      record {
        expected = record { utf8 = utf8; rest = rest };
        some = λ empty. some (sym (text_digits-bytes t utf8) ∙ empty);
        wrong = none;
      },
    )
