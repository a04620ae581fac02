-- How a run ends that the fault of a line ends.
use Rattle.std.proofs.Common.{◌≡◌, Bool, true, false, List, ℕ, Err, refl}
use Rattle.std.specs.Prelude.{Option}
use Rattle.std.specs.declared.io.ErrorKind.{ErrorKind}
use Rattle.regroup_faults.specs.Notation.{NotationData}
use Rattle.regroup_faults.specs.Fault.{fault_of}
use Rattle.regroup_faults.specs.Messages.{fault_message}
use Rattle.regroup_faults.specs.declared.fault.RegroupFault.{RegroupFault}
use Rattle.regroup_faults.specs.declared.fault.RegroupFault.TheVariants as fault
use Rattle.regroup_lines.specs.declared.rules.Rules.{Rules}
use Rattle.regroup_stream.specs.Ending.End.{Faulty}
use Rattle.regroup_stream.specs.Stream.{end_of_result}

-- whether a line is at fault
abbrev pub is_of_line : RegroupFault → Bool
is_of_line (fault.TooLong number max_line_len) = true
is_of_line (fault.FewFields number count) = true
is_of_line (fault.NotText number) = true
is_of_line (fault.FieldNotText number field) = true
is_of_line (fault.Line number error) = true
is_of_line (fault.Field number field error) = true
is_of_line (fault.Unclosed number) = true
is_of_line fault = false

module _ (rules : Rules) (name : List ℕ) (from : NotationData) (failure : Option ErrorKind) where
  pub faulty : (fault : RegroupFault) → is_of_line fault ≡ true →
      Faulty (fault_message name rules.reading from (fault_of fault)) ≡ end_of_result rules name from (Err (fault_of fault)) failure
  faulty (fault.TooLong number max_line_len) is = refl
  faulty (fault.FewFields number count) is = refl
  faulty (fault.NotText number) is = refl
  faulty (fault.FieldNotText number field) is = refl
  faulty (fault.Line number error) is = refl
  faulty (fault.Field number field error) is = refl
  faulty (fault.Unclosed number) is = refl
  faulty fault.TooMany is = absurd (cc)
  faulty fault.Read is = absurd (cc)
  faulty fault.Write is = absurd (cc)
  faulty fault.Report is = absurd (cc)
  faulty fault.Reject is = absurd (cc)
  faulty fault.Flush is = absurd (cc)
