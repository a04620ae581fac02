-- The text of a field by what trimming finds.
use Rattle.regroup_core.proofs.Common.{◌≡◌, ℕ, ◌-◌, List, length, take, drop, ap, ◌∙◌, arith, slice_range, is_ascii_whitespace}
use Rattle.regroup_core.proofs.Common.{prefix_len, length-drop, length-take-le, take_rest}
use Rattle.regroup_core.specs.Places.{blanks_after, blanks_before, len_before_blanks, trimmed}
use Rattle.std.proofs.lemmas.List.Sums.{prefix_len-le-length}
use Rattle.std.proofs.lemmas.Str.Ascii.{trim_ascii_end_is, trim_ascii_start_is}
use Rattle.std.specs.Str.{IsTrimAsciiEnd, IsTrimAsciiStart}

pub len-found : (rest text : List ℕ) → IsTrimAsciiEnd rest text → length text ≡ len_before_blanks rest
len-found rest text last = ap length (trim_ascii_end_is rest text last) ∙ length-take-le (len_before_blanks rest) rest (omega arith)

module _ (content rest text : List ℕ) (first : IsTrimAsciiStart content rest) where
  pub before-found : take (length content - length rest) content ≡ blanks_before content
  before-found =
      let bound = prefix_len-le-length is_ascii_whitespace content in
      let len : length rest ≡ length content - prefix_len is_ascii_whitespace content =
      ap length (trim_ascii_start_is content rest first) ∙ length-drop (prefix_len is_ascii_whitespace content) content in
      let number : length content - length rest ≡ prefix_len is_ascii_whitespace content = omega (arith, bound, len) in
      ap (λ n. take n content) number

  pub text-found : IsTrimAsciiEnd rest text → text ≡ trimmed content
  text-found last = trim_ascii_end_is rest text last
      ∙ ap (λ l. take (len_before_blanks l) l) (trim_ascii_start_is content rest first)

  pub after-found : IsTrimAsciiEnd rest text → slice_range rest (length text) (length rest) ≡ blanks_after content
  after-found last = take_rest rest (length text) ∙ ap (λ n. drop n rest) (len-found rest text last)
      ∙ ap (λ l. drop (len_before_blanks l) l) (trim_ascii_start_is content rest first)
