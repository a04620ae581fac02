-- How much of a report a writer received.
use Rattle.std.proofs.Common.{◌≡◌, ℕ, ◌+◌, ◌<◌, ◌≤◌, List, [], ◌∷◌, ◌++◌, length, take, drop, get_or, ap, sym, ◌∙◌, subst, append_assoc}
use Rattle.std.proofs.Common.{length-append, take-append-drop, arith}
use Rattle.std.proofs.lemmas.Grind.{flat_map-append}
use Rattle.std.proofs.lemmas.List.{drop_more, replicate-append-replicate, take_all}
use Rattle.std.specs.Prelude.{Option, Result, Ok, Err, OnErr, is_ok, replicate}
use Rattle.std.specs.Io.KnownBytes.{Appends}
use Rattle.std.specs.List.{flat_map}
use Rattle.num_format.specs.Writing.{StopsWithin}
use Rattle.num_format_writers.proofs.WritingLemmas.{StopsWithin-none, StopsWithin_prefix, StopsWithin_suffix}

module _ {X : Type 0} (f : X → List ℕ) (xs : List X) (i : ℕ) (d : X) (below : i < length xs) where
  -- the lines of the first entries, that of the next one, and the others
  split : flat_map f xs ≡ flat_map f (take i xs) ++ (f (get_or xs i d) ++ flat_map f (drop (i + 1) xs))
  split = ap (flat_map f) (sym (take-append-drop i xs)) ∙ flat_map-append f (take i xs) (drop i xs)
      ∙ ap (λ others. flat_map f (take i xs) ++ flat_map f others) (drop_more xs i d below)

  -- a writer that received the first lines and stops within the next one stops within the report
  pub stops_in_line : (rest : List ℕ) (a b c : Option (List ℕ)) → Appends a b (flat_map f (take i xs)) → StopsWithin b c (f (get_or xs i d))
      →
      StopsWithin a c (flat_map f xs ++ rest)
  stops_in_line rest a b c first stops =
      let lines = flat_map f (take i xs) in
      let others = flat_map f (drop (i + 1) xs) in
      let line = f (get_or xs i d) in
      let joined : (lines ++ (line ++ others)) ++ rest ≡ (lines ++ line) ++ (others ++ rest) = simp append_assoc in
      subst (StopsWithin a c) (sym (ap (λ all. all ++ rest) split ∙ joined))
      (StopsWithin_prefix a c (lines ++ line) (others ++ rest) (StopsWithin_suffix a b c lines line first stops))

-- a writer that received the lines of all entries and stops within the rest stops within the report
pub stops_after_lines : {X : Type 0} (f : X → List ℕ) (xs : List X) (n : ℕ) (rest : List ℕ) (a b c : Option (List ℕ)) → length xs ≤ n →
    Appends a b (flat_map f (take n xs)) → StopsWithin b c rest → StopsWithin a c (flat_map f xs ++ rest)
stops_after_lines f xs n rest a b c all lines stops =
    StopsWithin_suffix a b c (flat_map f xs) rest (subst (λ es. Appends a b (flat_map f es)) (take_all n xs all) lines) stops

-- a writer that received nothing stops within a report, which is not empty
pub stops_before : (lines : List ℕ) (byte : ℕ) (rest : List ℕ) (a : Option (List ℕ)) → StopsWithin a a (lines ++ (byte ∷ rest))
stops_before lines byte rest a = StopsWithin-none a (lines ++ (byte ∷ rest)) (omega (arith, length-append lines (byte ∷ rest)))

-- a writer that received the first spaces and stops within the next one stops within all
pub stops_in_spaces : (n i rest : ℕ) (a b c : Option (List ℕ)) → i + (1 + rest) ≡ n → Appends a b (replicate i 32)
    → StopsWithin b c (32 ∷ []) →
    StopsWithin a c (replicate n 32)
stops_in_spaces n i rest a b c count first stops =
    let joined : replicate i 32 ++ (replicate 1 32 ++ replicate rest 32) ≡ replicate n 32 =
    ap (λ others. replicate i 32 ++ others) (replicate-append-replicate 1 rest 32) ∙ replicate-append-replicate i (1 + rest) 32
    ∙ ap (λ m. replicate m 32) count in
    subst (StopsWithin a c) joined
    (StopsWithin_suffix a b c (replicate i 32) (replicate 1 32 ++ replicate rest 32) first
    (StopsWithin_prefix b c (32 ∷ []) (replicate rest 32) stops))

-- what follows from the error of one result holds on the error of another that is `Ok` exactly where the first is
pub on_same_error : {T E U D : Type 0} (r : Result T E) (s : Result U D) (P Q : Type 0) → is_ok s ≡ is_ok r → (P → Q) → OnErr r P
    → OnErr s Q
on_same_error r (Ok y) P Q same next holds = tt
on_same_error (Ok x) (Err d) P Q same next holds = absurd (cc)
on_same_error (Err e) (Err d) P Q same next holds = next holds
