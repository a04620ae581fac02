-- What the program does with several inputs, one after the other.
use Rattle.std.specs.Prelude.{◌≡◌, ℕ, ◌==◌, ◌&&◌, ◌||◌, max, Bool, false, true, List, [], ◌∷◌, ◌++◌, Option, Result, Ok, Err}
use Rattle.regroup_faults.specs.Notation.{NotationData}
use Rattle.regroup_lines.specs.declared.rules.Invalid.{Invalid}
use Rattle.regroup_lines.specs.declared.rules.Invalid.TheVariants.{Abort, Fail, Warn, Ignore}
use Rattle.regroup_lines.specs.declared.rules.Rules.{Rules}
use Rattle.regroup_lines.specs.Sending.{Writer, by_writer}
use Rattle.regroup_stream.specs.Ending.{End, Finishes}
use Rattle.regroup_stream.specs.Ending.End.{IsOutput, Unopened}
use Rattle.regroup_stream.specs.Names.{RunsNamed}
use Rattle.regroup_stream.specs.declared.inputs.Unread.{Unread}
use Rattle.regroup_stream.specs.declared.inputs.Unread.TheVariants as opening
use Rattle.regroup_stream.specs.declared.inputs.Unread.TheVariants.{CannotOpen}

-- whether the next input is read after one with this status: each of its lines was written
abbrev pub reads_on : Invalid → (status : ℕ) → Bool
reads_on Fail status = status == 0 || status == 1
reads_on Abort status = status == 0
reads_on Warn status = status == 0
reads_on Ignore status = status == 0

-- the end of an input that is not read for this reason
abbrev pub end_of_unread : Unread → End
end_of_unread (CannotOpen kind) = Unopened kind
end_of_unread opening.IsOutput = IsOutput

-- what opening an input of a name gives: the bytes that it has, or why it is not read
abbrev pub Opens : Type 1
Opens = (name : List ℕ) → Result (Option (List ℕ)) Unread → Type 0

-- what the program does with the input of this name, with which status, whether the next one is read, and whether all of its lines were
-- taken: where opening it gave these bytes, it regroups their lines, with the fields that have these names chosen too, and else it says why
-- the input is not read
pub data RunsOne (opens : Opens) (rules : Rules) (fields : List (List ℕ)) (from to : NotationData) (name : List ℕ) : (status : ℕ)
    → (goes_on is_taken : Bool) → (old new : Writer → Option (List ℕ)) → (held_old held_new : Writer → List ℕ) → Type 0 where
  read : (status : ℕ) (bytes : Option (List ℕ)) (old new : Writer → Option (List ℕ)) (held_old held_new : Writer → List ℕ) →
      opens name (Ok bytes) → RunsNamed rules fields from to name status bytes old new held_old held_new →
      RunsOne opens rules fields from to name status (reads_on rules.invalid status) (reads_on rules.invalid status) old new held_old
      held_new
  unread : (why : Unread) (status : ℕ) (out err_old err_new rejects : Option (List ℕ)) (held : Writer → List ℕ) →
      opens name (Err why) → Finishes name (end_of_unread why) status err_old err_new →
      RunsOne opens rules fields from to name status true false (by_writer out err_old rejects) (by_writer out err_new rejects) held held

-- the same of inputs in turn: the status is the highest of theirs, only the last one may be such that the next one is not read, and all
-- lines were taken if those of each were
pub data RunsEach (opens : Opens) (rules : Rules) (fields : List (List ℕ)) (from to : NotationData) : (names : List (List ℕ)) → (status : ℕ)
    → (goes_on is_whole : Bool) → (old new : Writer → Option (List ℕ)) → (held_old held_new : Writer → List ℕ) → Type 0 where
  none : (all : Writer → Option (List ℕ)) (held : Writer → List ℕ) → RunsEach opens rules fields from to [] 0 true true all all held held
  more : (names : List (List ℕ)) (name : List ℕ) (status last : ℕ) (goes_on is_whole is_taken : Bool)
      (old mid new : Writer → Option (List ℕ)) (held_old held held_new : Writer → List ℕ)
      → RunsEach opens rules fields from to names status true is_whole old mid held_old held →
      RunsOne opens rules fields from to name last goes_on is_taken mid new held held_new →
      RunsEach opens rules fields from to (names ++ name ∷ []) (max status last) goes_on (is_whole && is_taken) old new held_old held_new

-- the same of all inputs, or of those up to one after which none is read
pub record RunsWhole (opens : Opens) (rules : Rules) (fields : List (List ℕ)) (from to : NotationData) (names : List (List ℕ)) (status : ℕ)
    (is_whole : Bool) (old new : Writer → Option (List ℕ)) (held_old held_new : Writer → List ℕ) : Type 0 where
  pub tried : List (List ℕ)
  pub left : List (List ℕ)
  pub goes_on : Bool
  pub split : names ≡ tried ++ left
  pub runs : RunsEach opens rules fields from to tried status goes_on is_whole old new held_old held_new
  pub all : goes_on ≡ true → left ≡ []

-- the same, whether or not all lines were taken
abbrev pub RunsAll : (opens : Opens) → (rules : Rules) → (fields : List (List ℕ)) → (from to : NotationData) → (names : List (List ℕ))
    → (status : ℕ) → (old new : Writer → Option (List ℕ)) → (held_old held_new : Writer → List ℕ) → Type 0
RunsAll opens rules fields from to names status old new held_old held_new =
    (is_whole : Bool) × RunsWhole opens rules fields from to names status is_whole old new held_old held_new
