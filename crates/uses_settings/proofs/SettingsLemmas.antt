-- What a line does to a builder.
use Rattle.std.proofs.Common.{◌≡◌, refl, sym, List, [], ◌∷◌, ◌++◌, ℕ, map, Bor, Option, Some, None}
use Rattle.std.proofs.lemmas.List.{map-append}
use Rattle.std.proofs.lemmas.List.Sums.{fold-append}
use Rattle.std.specs.Prelude.{fold, unwrap_or, IsSome}
use Rattle.std.specs.Option.{option_map}
use Rattle.num_format.specs.Building.{Call, Choices, after_call}
use Rattle.uses_settings.specs.Settings.{after_line, call_in}

-- after a line that is a setting, the builder has what its call sets
after_setting : (before c next : Choices) (o : Option Call) → before ≡ c → Some next ≡ option_map (after_call c) o
    → next ≡ unwrap_or (option_map (after_call before) o) before
after_setting before c next o same set = rw (same, ← set) refl

-- the builder after one more line, which is a setting
pub after_more : (start c next : Choices) (ls : List (Bor (List ℕ))) (line : Bor (List ℕ)) → c ≡ fold after_line start (map (λ l. l.now) ls)
    →
    Some next ≡ option_map (after_call c) (call_in line.now) → next ≡ fold after_line start (map (λ l. l.now) (ls ++ line ∷ []))
after_more start c next ls line same set =
    rw (map-append, fold-append) (after_setting (fold after_line start (map (λ l. l.now) ls)) c next (call_in line.now) (sym same) set)

-- a line whose call changes the builder is a setting
pub IsSome-call : (f : Call → Choices) (o : Option Call) (next : Choices) → Some next ≡ option_map f o → IsSome o
IsSome-call f None next e = cc
IsSome-call f (Some call) next e = refl

-- a line that changes no builder is no setting
pub None-call : (f : Call → Choices) (o : Option Call) → None ≡ option_map f o → o ≡ None
None-call f None e = refl
None-call f (Some call) e = cc
