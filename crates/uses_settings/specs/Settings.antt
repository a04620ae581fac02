-- What the lines of a text set, and why they are refused.
use Rattle.std.specs.Prelude.{◌≡◌, ℕ, ◌==◌, List, length, codes, fold, All, Any, IsSome, Option, Some, None, Ok, Err, unwrap_or}
use Rattle.std.specs.Prelude.{if◌then◌else◌}
use Rattle.std.specs.List.{after_first, before_first, position_or_len}
use Rattle.std.specs.Option.{option_map}
use Rattle.std.specs.Str.{bytes_eq}
use Rattle.std.specs.Str.Lines.{lines}
use Rattle.num_format.specs.Building.{Call, Choices, SetDecimal, SetGrouping, SetMinusSign, SetSeparator, after_call, built, choices_of}
use Rattle.num_format.specs.Cut.{cut_text}
use Rattle.num_format.specs.English.{english}
use Rattle.num_format.specs.Error.{Error}
use Rattle.num_format.specs.Format.{FormatData}
use Rattle.num_format.specs.GroupingNames.{grouping_named}
use Rattle.num_format.specs.Refusal.{Other, refusal_of}
use Rattle.num_format.specs.RoundTrips.{RoundTrips}

-- the call of a builder's method that a key and a value stand for
abbrev pub call_of : (key value : List ℕ) → Option Call
call_of key value =
    if bytes_eq key (codes "decimal") then Some (SetDecimal value)
    else (if bytes_eq key (codes "grouping") then option_map SetGrouping (grouping_named value)
    else (if bytes_eq key (codes "minus_sign") then Some (SetMinusSign value)
    else (if bytes_eq key (codes "separator") then Some (SetSeparator value) else None)))

-- the call that a line stands for: its key is what stands before the first `=`, which is the byte 61, and its value what stands after it
abbrev pub call_in : List ℕ → Option Call
call_in line =
    if position_or_len (λ b. b == 61) line == length line then None
    else call_of (before_first (λ b. b == 61) line) (after_first (λ b. b == 61) line)

-- what a builder has after a line: after the call that it stands for, if it stands for one
abbrev pub after_line : Choices → List ℕ → Choices
after_line c line = unwrap_or (option_map (after_call c) (call_in line)) c

-- what a builder has that starts with the data of `en`, after all lines of a text
abbrev pub choices_in : List ℕ → Choices
choices_in text = fold after_line (choices_of english) (lines text)

-- each line of a text is a setting
abbrev pub HasSettings : List ℕ → Type 0
HasSettings text = All (λ line. IsSome (call_in line)) (lines text)

-- why a text is refused with that error: a line is no setting; or each is one, but the format has a text that is too long, or a number
-- under it does not read back
pub data Refuses (text : List ℕ) (e : Error) : Type 0 where
  no_setting : Any (λ line. call_in line ≡ None) (lines text) → refusal_of e ≡ Other (cut_text (codes "a line is no setting of a format"))
      → Refuses text e
  too_long : HasSettings text → built (choices_in text) ≡ Err e → Refuses text e
  ambiguous : HasSettings text → (f : FormatData) → built (choices_in text) ≡ Ok f → ¬ (RoundTrips f)
      → refusal_of e ≡ Other (cut_text (codes "numbers under this format do not read back")) → Refuses text e
