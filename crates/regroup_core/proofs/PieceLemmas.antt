-- Records that come in pieces.
use Rattle.regroup_core.proofs.Common.{ℕ, ◌+◌, ◌≡◌, ◌==◌, List, [], ◌∷◌, ◌++◌, length, take, suc, Option, Some, None, refl, sym, ap, ◌∙◌}
use Rattle.regroup_core.proofs.Common.{arith}
use Rattle.regroup_core.proofs.Common.{cases_Bool, inl, inr, cond, option_map, fold-append, sum_by-append, is_end, after_byte, after_text}
use Rattle.regroup_core.proofs.Common.{end_of, ends_in, state_after, through_end, Within}
use Rattle.regroup_core.proofs.PartLemmas.{later, later-none}
use Rattle.regroup_core.specs.Laws.{GoesOn, PiecesLaw}
use Rattle.std.proofs.Math.Seq.{take-append-add}

module _ (q : Option ℕ) (e : ℕ) where
  piece-ends : (w : Within) (front back : List ℕ) (n : ℕ) → end_of q e w front ≡ Some n → end_of q e w (front ++ back) ≡ Some n
  piece-ends w [] back n is = absurd (cc)
  piece-ends w (b ∷ front) back n is =
      elim (cases_Bool (is_end e w b)) [
        | inl ends ↦ rw ends (rw ends at is)
        | inr plain ↦
            let found = later (end_of q e (after_byte q w b) front) n (rw plain at is) in
            rw plain (ap (option_map (λ k. suc k)) (piece-ends (after_byte q w b) front back found.0 found.1) ∙ ap Some (sym found.2))
      ]

  map-none : (found : Option ℕ) → found ≡ option_map (λ n. 0 + n) found
  map-none None = refl
  map-none (Some n) = ap Some (omega arith)

  map-more : (len : ℕ) (found : Option ℕ) → option_map (λ k. suc k) (option_map (λ n. len + n) found) ≡ option_map (λ n. suc len + n) found
  map-more len None = refl
  map-more len (Some n) = ap Some (omega arith)

  piece-goes_on : (w : Within) (front back : List ℕ) → end_of q e w front ≡ None
      → end_of q e w (front ++ back) ≡ option_map (λ n. length front + n) (end_of q e (after_text q w front) back)
  piece-goes_on w [] back is = map-none (end_of q e w back)
  piece-goes_on w (b ∷ front) back is =
      elim (cases_Bool (is_end e w b)) [
        | inl ends ↦ absurd (cc (rw ends at is))
        | inr plain ↦ rw plain (ap (option_map (λ k. suc k)) (piece-goes_on (after_byte q w b) front back (later-none _ (rw plain at is)))
            ∙ map-more (length front) (end_of q e (after_text q (after_byte q w b) front) back))
      ]

  through-more : (front back : List ℕ) (found : Option ℕ) → through_end (option_map (λ n. length front + n) found) (front ++ back)
      ≡ front ++ through_end found back
  through-more front back None = refl
  through-more front back (Some n) =
      let sum : length front + n + 1 ≡ length front + (n + 1) = omega arith in
      ap (λ k. take k (front ++ back)) sum ∙ take-append-add front back (n + 1)

  state-more : (w : Within) (front back : List ℕ) (found : Option ℕ)
      → state_after q (option_map (λ n. length front + n) found) w (front ++ back) ≡ state_after q found (after_text q w front) back
  state-more w front back None = fold-append (after_byte q) w front back
  state-more w front back (Some n) = refl

  goes_on : (w : Within) (front back : List ℕ) → end_of q e w front ≡ None → GoesOn q e w front back
  goes_on w front back is =
      let end = piece-goes_on w front back is in
      let next = end_of q e (after_text q w front) back in
      record {
        end = end;
        line_ends = ap (λ found. ends_in e (through_end found (front ++ back))) end ∙ ap (ends_in e) (through-more front back next)
            ∙ sum_by-append (λ b. cond (b == e) 1 0) front (through_end next back);
        state = ap (λ found. state_after q found w (front ++ back)) end ∙ state-more w front back next;
      }

pub pieces_law : PiecesLaw
pieces_law q e w front back = (piece-ends q e w front back, goes_on q e w front back)
