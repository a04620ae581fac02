-- A law of inputs that are split.
use Rattle.std.specs.Prelude.{◌≡◌, ℕ, ◌+◌, false, ◌||◌, List, ◌++◌, Some, Ok}
use Rattle.regroup_faults.specs.Notation.{NotationData}
use Rattle.regroup_lines.specs.Ended.{ended_by}
use Rattle.regroup_faults.specs.Fault.{are_any}
use Rattle.regroup_lines.specs.Lines.{Regrouped, begins_with_mark, quotes_in, regrouped}
use Rattle.regroup_lines.specs.Lines.Stop.{Ended}
use Rattle.regroup_lines.specs.Records.{is_left_open}
use Rattle.regroup_lines.specs.declared.rules.Rules.{Rules}

-- the whole has this many lines: each part returns its lines, and sends its part of the bytes to each writer, and the whole names a fault
-- exactly if a part does
pub record SplitsInto (all first second : Regrouped) (lines : ℕ) : Type 0 where
  pub first_lines : ℕ
  pub second_lines : ℕ
  pub first_returned : first.returned ≡ Some (Ok first_lines)
  pub second_returned : second.returned ≡ Some (Ok second_lines)
  pub counted : lines ≡ first_lines + second_lines
  pub written : all.sent.written ≡ first.sent.written ++ second.sent.written
  pub rejected : all.sent.rejected ≡ first.sent.rejected ++ second.sent.rejected
  pub named : are_any all.sent.named ≡ (are_any first.sent.named || are_any second.sent.named)

-- where no line is at fault, or none ends the run, and there is no header, an input may be split after a byte that ends a line, and not
-- before a byte order mark, if the first part does not end inside quotes
abbrev pub SplitLaw : Type 0
SplitLaw = (rules : Rules) (most : ℕ) (from to : NotationData) (a b : List ℕ) (lines : ℕ) → rules.header_lines ≡ 0
    → begins_with_mark b ≡ false →
    is_left_open (quotes_in rules.span) rules.line_end a ≡ false →
    (regrouped rules most from to Ended (ended_by rules.line_end a ++ b)).returned ≡ Some (Ok lines) →
    SplitsInto (regrouped rules most from to Ended (ended_by rules.line_end a ++ b))
    (regrouped rules most from to Ended (ended_by rules.line_end a)) (regrouped rules most from to Ended b) lines
