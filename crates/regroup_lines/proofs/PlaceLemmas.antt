-- Where the number is in the text of a line.
use Rattle.regroup_lines.proofs.Common.{◌≡◌, ℕ, ◌+◌, ◌-◌, ◌≤◌, List, length, drop, sym, ap, ◌∙◌, arith, slice_range, is_ascii_whitespace}
use Rattle.regroup_lines.proofs.Common.{prefix_len, suffix_len, IsTrimAsciiEnd, IsTrimAsciiStart, length-drop, length-take-le}
use Rattle.regroup_lines.proofs.Common.{prefix_len-le-length, suffix_len-le-length, trimmed}
use Rattle.std.proofs.lemmas.Str.Ascii.{trim_ascii_end_is, trim_ascii_start_is}
use Rattle.regroup_lines.proofs.InputLemmas.{range-later}

-- a place without the whitespace at its ends
pub trim_found : (text field rest number : List ℕ) (start end : ℕ) → field ≡ slice_range text start end → start ≤ end → end ≤ length text
    → IsTrimAsciiStart field rest → IsTrimAsciiEnd rest number →
    (end - length rest, end - length rest + length number) ≡ trimmed text (start, end)
trim_found text field rest number start end is ordered within first last =
    let p = prefix_len is_ascii_whitespace field in
    let s = suffix_len is_ascii_whitespace rest in
    let bound = prefix_len-le-length is_ascii_whitespace field in
    let short = suffix_len-le-length is_ascii_whitespace rest in
    let rest_is = trim_ascii_start_is field rest first in
    let field_len : length field ≡ end - start = ap length is ∙ length-take-le (end - start) (drop start text)
    (let len = length-drop start text in omega (arith, len)) in
    let rest_len : length rest ≡ length field - p = ap length rest_is ∙ length-drop p field in
    let number_len : length number ≡ length rest - s = ap length (trim_ascii_end_is rest number last)
    ∙ length-take-le (length rest - s) rest (omega arith) in
    let there : slice_range text (start + p) end ≡ rest = range-later text start end p (omega (arith, bound, field_len))
    ∙ ap (drop p) (sym is) ∙ sym rest_is in
    let from : end - length rest ≡ start + p = omega (arith, bound, field_len, rest_len) in
    let to : end - length rest + length number ≡ end - s = omega (arith, bound, field_len, rest_len, number_len, short) in
    ap (λ k. (k, end - length rest + length number)) from ∙ ap (λ k. (start + p, k)) to
    ∙ ap (λ l. (start + p, end - suffix_len is_ascii_whitespace l)) (sym there)
    ∙ ap (λ l. (
      start + prefix_len is_ascii_whitespace l,
      end - suffix_len is_ascii_whitespace
          (slice_range text (start + prefix_len is_ascii_whitespace l) end),
    )) is
