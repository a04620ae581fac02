-- Which numbers decide whether two formats print all numbers alike.
use Rattle.std.proofs.Common.{◌≡◌, ℕ, ◌*◌, ◌-◌, ◌^◌, ◌<◌, List, ◌++◌, length, take, drop, refl, sym, ap, ◌∙◌, arith}
use Rattle.std.proofs.Common.{ℤ, pos, negsuc, unsigned_abs}
use Rattle.std.specs.Prelude.{◌≤ℤ◌}
use Rattle.std.proofs.lemmas.Int.{ints}
use Rattle.std.proofs.lemmas.List.{append_cancel_right, take_at}
use Rattle.num_format_text.specs.declared.grouping.Grouping.{Grouping}
use Rattle.num_format_text.specs.declared.grouping.Grouping.TheVariants.{Standard, Indian, Posix, Myriad, Sparse}
use Rattle.num_format_text.specs.Format.{FormatData}
use Rattle.num_format_int.specs.Digits.{digits}
use Rattle.num_format_int.specs.Grouped.{grouped, separators}
use Rattle.num_format_int.specs.Groups.{plain}
use Rattle.num_format_int.specs.Text.{body_of, text_of}
use Rattle.num_format_int.proofs.GroupedLemmas.{grouped-empty, grouped-Posix, length-grouped}
use Rattle.num_format_certificates.specs.Alike.{Alike}
use Rattle.num_format_certificates.specs.Laws.{AlikeLaw}

-- digits without a separator, as it is empty or never printed: it takes no byte in 100000
no_space : (g : Grouping) (s ds : List ℕ) → separators g 6 * length s ≡ 0 → grouped g s ds ≡ plain ds
no_space Posix s ds none = grouped-Posix s ds
no_space g s ds none = grouped-empty g s ds (omega arith)

-- the first separators of two texts, which begin at one place
same_prefix : (s t a b : List ℕ) → length s ≡ length t → s ++ a ≡ t ++ b → s ≡ t
same_prefix s t a b long same = sym (take_at s a (length s) refl) ∙ ap (take (length s)) same ∙ take_at t b (length s) (sym long)

-- groupings that differ have other numbers of separators among four digits, six and seven, so that these take equally many bytes
-- among all three only if they are empty or there are none; and where groupings are the same, so are the first separators in 100000
same_grouping : (g h : Grouping) (s t : List ℕ) → separators g 4 * length s ≡ separators h 4 * length t →
    separators g 6 * length s ≡ separators h 6 * length t → separators g 7 * length s ≡ separators h 7 * length t →
    grouped g s (digits 100000) ≡ grouped h t (digits 100000) → (ds : List ℕ) → grouped g s ds ≡ grouped h t ds
unfolding digits
same_grouping Standard Standard s t four six seven same ds = rw (same_prefix s t _ _ (omega arith) (ap (drop 3) same))
same_grouping Indian Indian s t four six seven same ds = rw (same_prefix s t _ _ (omega arith) (ap (drop 1) same))
same_grouping Myriad Myriad s t four six seven same ds = rw (same_prefix s t _ _ (omega arith) (ap (drop 2) same))
same_grouping Sparse Sparse s t four six seven same ds = rw (same_prefix s t _ _ (omega arith) (ap (drop 3) same))
same_grouping g h s t four six seven same ds = no_space g s ds (omega arith) ∙ sym (no_space h t ds (omega arith))

-- what a caller needs whose formats print alike
pub alike_text : (f g : FormatData) (z : ℤ) → Alike f g → negsuc (2 ^ 127 - 1) ≤ℤ z → z ≤ℤ pos (2 ^ 128 - 1) → text_of f z ≡ text_of g z
alike_text f g z alike low high = alike.same z low high

-- the same for a number that is not negative
pub alike_text_pos : (f g : FormatData) (n : ℕ) → Alike f g → n < 2 ^ 128 → text_of f (pos n) ≡ text_of g (pos n)
alike_text_pos f g n alike below = alike.same (pos n) (omega (arith, ints)) (omega (arith, ints))

pub ruleset alike_texts = (alike_text, alike_text_pos)

-- formats that print 1000, 100000, 1000000 and -1 alike print all numbers alike
pub alike_law : AlikeLaw
unfolding digits
alike_law f g = (
  λ alike.
      let shown = alike_text_pos f g in (
        shown 1000 alike (omega arith),
        shown 100000 alike (omega arith),
        shown 1000000 alike (omega arith),
        alike.same (negsuc 0) (omega (arith, ints)) (omega (arith, ints)),
      ),
  λ (four, six, seven, minus_one).
      let space = λ (ds : List ℕ) (same : grouped f.grouping f.separator ds ≡ grouped g.grouping g.separator ds).
      (let e : separators f.grouping (length ds) * length f.separator ≡ separators g.grouping (length ds) * length g.separator =
      omega (arith, ap length same, length-grouped f.grouping f.separator ds, length-grouped g.grouping g.separator ds) in e) in
      let bodies = same_grouping f.grouping g.grouping f.separator g.separator
      (space (digits 1000) four) (space (digits 100000) six) (space (digits 1000000) seven) six in
      let sign = append_cancel_right f.minus_sign g.minus_sign (body_of g 1) (rw (bodies (digits 1)) at minus_one) in
      record { same = λ z low high. rw (sign, bodies (digits (unsigned_abs z))) },
)
