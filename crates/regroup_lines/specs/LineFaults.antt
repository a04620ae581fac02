-- Faults while the text of a line is at hand.
use Rattle.std.specs.Prelude.{◌≡◌, ℕ, Bool, true, if◌then◌else◌, List, ⊤}
use Rattle.std.specs.Str.{is_utf8}
use Rattle.num_format.specs.Cut.{cut_text}
use Rattle.num_format.specs.Refusal.{ParseNumber}
use Rattle.regroup_faults.specs.Fault.{Fault, in_field}
use Rattle.regroup_faults.specs.Fault.Fault.{FewFields, Flush, Line, NotText, Read, Reject, Report, Unclosed, Write}
use Rattle.regroup_lines.specs.declared.line_fault.LineFault.{LineFault}
use Rattle.regroup_lines.specs.declared.line_fault.LineFault.TheVariants as fault

-- the fault of a text that is not a number, in the line of this number
abbrev pub text_fault : ℕ → List ℕ → Fault
text_fault number text = if is_utf8 text then Line number (ParseNumber (cut_text text)) else NotText number

-- the `Fault` of a `LineFault`
abbrev pub line_fault_of : LineFault → Fault
line_fault_of (fault.NotANumber number text) = text_fault number text.now
line_fault_of (fault.NotAField number field text) = in_field field (text_fault number text.now)
line_fault_of (fault.FewFields number count) = FewFields number count
line_fault_of (fault.Unclosed number) = Unclosed number
line_fault_of fault.Write = Write
line_fault_of fault.Report = Report
line_fault_of fault.Reject = Reject
line_fault_of fault.Read = Read
line_fault_of fault.Flush = Flush

-- a read failed, or a flush before it where there is one
abbrev pub IsHalt : (flushes : Bool) → Fault → Type 0
IsHalt flushes Read = ⊤
IsHalt flushes Flush = flushes ≡ true
IsHalt flushes fault = ⊥
