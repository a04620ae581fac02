-- Faults as clauses compare them.
use Rattle.std.specs.Prelude.{ℕ, Bool, true, false, List, [], ◌∷◌, Option, None, Some}
use Rattle.num_format.specs.Refusal.{Refusal, refusal_of}
use Rattle.regroup_faults.specs.declared.fault.FieldCount.{FieldCount}
use Rattle.regroup_faults.specs.declared.fault.RegroupFault.{RegroupFault}
use Rattle.regroup_faults.specs.declared.fault.RegroupFault.TheVariants as fault

-- a fault, with the number of its line, and of its field where a text in a chosen field is at fault; of a line that is too long, with how
-- many bytes it may have, and of one with too few fields with how many it has; an error is what clauses see of it
pub data Fault : Type 0 where
  TooMany : Fault
  TooLong : ℕ → ℕ → Fault
  FewFields : ℕ → FieldCount → Fault
  Read : Fault
  NotText : ℕ → Fault
  FieldNotText : ℕ → ℕ → Fault
  Line : ℕ → Refusal → Fault
  Field : ℕ → ℕ → Refusal → Fault
  Unclosed : ℕ → Fault
  Write : Fault
  Report : Fault
  Reject : Fault
  Flush : Fault

-- the `Fault` of a `RegroupFault`
abbrev pub fault_of : RegroupFault → Fault
fault_of fault.TooMany = TooMany
fault_of (fault.TooLong number max_line_len) = TooLong number max_line_len
fault_of (fault.FewFields number count) = FewFields number count
fault_of fault.Read = Read
fault_of (fault.NotText number) = NotText number
fault_of (fault.FieldNotText number field) = FieldNotText number field
fault_of (fault.Line number error) = Line number (refusal_of error)
fault_of (fault.Field number field error) = Field number field (refusal_of error)
fault_of (fault.Unclosed number) = Unclosed number
fault_of fault.Write = Write
fault_of fault.Report = Report
fault_of fault.Reject = Reject
fault_of fault.Flush = Flush

-- the fault of a text in the field of this number
abbrev pub in_field : ℕ → Fault → Fault
in_field field (NotText number) = FieldNotText number field
in_field field (Line number refusal) = Field number field refusal
in_field field fault = fault

-- whether there is any
abbrev pub are_any : List Fault → Bool
are_any [] = false
are_any (fault ∷ faults) = true

-- the number of the line that is at fault, if a line is
abbrev pub line_of : Fault → Option ℕ
line_of (TooLong number max_line_len) = Some number
line_of (FewFields number count) = Some number
line_of (NotText number) = Some number
line_of (FieldNotText number field) = Some number
line_of (Line number refusal) = Some number
line_of (Field number field refusal) = Some number
line_of (Unclosed number) = Some number
line_of fault = None
