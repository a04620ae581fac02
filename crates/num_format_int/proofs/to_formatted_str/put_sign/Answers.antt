use Rattle.std.proofs.Common.{◌≡◌, ℕ, ◌≤◌, Bool, true, false, List, [], ◌∙◌, length, refl, sym, arith, append-nil}
use Rattle.std.specs.Prelude.{IsUtf8}
use Rattle.std.specs.Str.{IsCharBoundary}
use Rattle.std.proofs.lemmas.Str.{IsCharBoundary-at_seam, IsCharBoundary-start, IsUtf8-nil}
use Rattle.num_format_int.proofs.to_formatted_str.put_sign.Goals as goal

-- a text of one byte begins and ends with a character
either_end : (is_whole : Bool) (skipped : ℕ) (text : List ℕ) → (is_whole ≡ true → skipped ≡ 0) → (is_whole ≡ false → skipped ≡ 1)
    → IsUtf8 text → length text ≡ 1 →
    (skipped ≤ length text) × IsCharBoundary text skipped
either_end true skipped text none _ utf8 one = rw (none refl) (omega arith, IsCharBoundary-start text utf8)
either_end false skipped text _ all utf8 one =
    let end : skipped ≡ length text = all refl ∙ sym one in
    rw end (omega arith, IsCharBoundary-at_seam text text [] (sym (append-nil text)) IsUtf8-nil)

pub put_end-requires-clause-boundary : goal.put_end-requires-clause-boundary
put_end-requires-clause-boundary g c =
    either_end c.args.is_negative _ c.range.result.now (λ yes. rw yes) (λ no. rw no) c.range.utf8 (omega (arith, c.range.ensures.len))
