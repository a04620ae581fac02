-- What was done with the first inputs, and with one more.
use Rattle.std.proofs.Common.{◌≡◌, ℕ, ◌<◌, ◌≤◌, ◌+◌, true, false, List, [], length, map, take, drop, get_or, refl, sym, ap, ◌∙◌, subst}
use Rattle.std.proofs.Common.{take-append-drop}
use Rattle.std.proofs.lemmas.List.{append-nil, map-append, take_all, take_more}
use Rattle.std.specs.Borrow.{Bor}
use Rattle.std.specs.Prelude.{Bool, Option, max, ◌&&◌}
use Rattle.regroup_faults.specs.Notation.{NotationData}
use Rattle.regroup_lines.specs.declared.rules.Rules.{Rules}
use Rattle.regroup_lines.specs.Sending.{Writer}
use Rattle.regroup_stream.specs.Inputs.{Opens, RunsEach, RunsOne, RunsWhole}

module _ (opens : Opens) (rules : Rules) (fields : List (List ℕ)) (from to : NotationData) (names : List (Bor (List ℕ))) (k : ℕ)
    (old new : Writer → Option (List ℕ)) (held_old held_new : Writer → List ℕ) where
  -- one input more
  pub RunsEach_more : (d : Bor (List ℕ)) (status last highest : ℕ) (goes_on is whole taken is_whole : Bool)
      (mid : Writer → Option (List ℕ)) (held : Writer → List ℕ) → k < length names → highest ≡ max status last → goes_on ≡ is →
      is_whole ≡ (whole && taken) →
      RunsEach opens rules fields from to (map (λ name. name.now) (take k names)) status true whole old mid held_old held →
      RunsOne opens rules fields from to (get_or names k d).now last goes_on taken mid new held held_new →
      RunsEach opens rules fields from to (map (λ name. name.now) (take (k + 1) names)) highest is is_whole old new held_old held_new
  RunsEach_more d status last highest goes_on is whole taken is_whole mid held below same_status same_on same_whole each one =
      rw (take_more names k d below, map-append, same_status, same_whole, ← same_on) (RunsEach.more _ _ _ _ _ _ _ _ _ _ _ _ _ each one)

  -- an input after which none is read
  pub RunsWhole_stopped : (d : Bor (List ℕ)) (status last highest : ℕ) (goes_on whole taken is_whole : Bool)
      (mid : Writer → Option (List ℕ)) (held : Writer → List ℕ) → k < length names → highest ≡ max status last → goes_on ≡ false →
      is_whole ≡ (whole && taken) →
      RunsEach opens rules fields from to (map (λ name. name.now) (take k names)) status true whole old mid held_old held →
      RunsOne opens rules fields from to (get_or names k d).now last goes_on taken mid new held held_new →
      RunsWhole opens rules fields from to (map (λ name. name.now) names) highest is_whole old new held_old held_new
  RunsWhole_stopped d status last highest goes_on whole taken is_whole mid held below same_status stops same_whole each one = record {
    tried = map (λ name. name.now) (take (k + 1) names);
    left = map (λ name. name.now) (drop (k + 1) names);
    goes_on = false;
    split = sym (ap (map (λ name. name.now)) (take-append-drop (k + 1) names))
        ∙ map-append (λ name. name.now) (take (k + 1) names) (drop (k + 1) names);
    runs = RunsEach_more d status last highest goes_on false whole taken is_whole mid held below same_status stops same_whole each one;
    all = λ on. absurd (cc);
  }

  -- the last input
  pub RunsWhole_done : (status : ℕ) (whole : Bool) → length names ≤ k →
      RunsEach opens rules fields from to (map (λ name. name.now) (take k names)) status true whole old new held_old held_new →
      RunsWhole opens rules fields from to (map (λ name. name.now) names) status whole old new held_old held_new
  RunsWhole_done status whole last each = record {
    tried = map (λ name. name.now) names;
    left = [];
    goes_on = true;
    split = sym (append-nil _);
    runs = subst (λ some. RunsEach opens rules fields from to (map (λ name. name.now) some) status true whole old new held_old held_new)
        (take_all k names last) each;
    all = λ on. refl;
  }
