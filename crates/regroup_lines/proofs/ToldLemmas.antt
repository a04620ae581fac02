-- What is sent of one line and told of it.
use Rattle.regroup_lines.proofs.Common.{◌≡◌, ◌≢◌, ◌∙◌}
use Rattle.regroup_lines.proofs.Common.{ℕ, Bool, true, false, List, [], Option, None, Some}
use Rattle.regroup_lines.proofs.Common.{Result, Ok, Err, refl, sym, ap, subst, Appends, result_map_both, is_utf8, Appends-nil}
use Rattle.regroup_lines.proofs.Common.{NotationData, StopsWithin, ended_by, Fault, are_any, in_field, Line, NotText, Report, Unclosed}
use Rattle.regroup_lines.proofs.Common.{Write, line_fault_of, Sent, body_sent, body_written, fault_named, fault_sent, only_written, passed}
use Rattle.regroup_lines.proofs.Common.{passes, quotes_in, record_sent, text_sent, messages, is_open, Names, SendsBytes}
use Rattle.regroup_lines.proofs.Common.{SendsEach, SendsLine, Writer, by_writer, failed_writer, text_to, Output, LineFault, Rules}
use Rattle.regroup_lines.proofs.Common.{ended_once}
use Rattle.regroup_lines.specs.declared.line_fault.LineFault.TheVariants as fault
use Rattle.regroup_lines.proofs.ChoiceLemmas.{either}
use Rattle.regroup_lines.proofs.LineLemmas.{passes-fault}
use Rattle.regroup_lines.proofs.SentLemmas.{IsSent, body_written-sent}
use Rattle.regroup_lines.proofs.WriterLemmas.{each, passed-received, prefix-none, unnamed-stopped}

module _ (rules : Rules) (name : List ℕ) (from : NotationData) where
  abbrev Sends_each : Result Sent Fault → (old new : Writer → Option (List ℕ)) → Result Bool Fault → Type 0
  Sends_each sent old new result = SendsEach name rules.reading from sent old new result

  -- a line that is sent to the output alone
  module _ (a b d x : Option (List ℕ)) where
    pub written-each : (bytes : List ℕ) → Appends a b bytes → Sends_each (Ok (only_written bytes)) (by_writer a d x) (by_writer b d x)
        (Ok false)
    written-each bytes sent = (
      refl,
      each None (by_writer a d x) (by_writer b d x) (text_to name rules.reading from (only_written bytes)) sent (Appends-nil d)
          (Appends-nil x),
    )

    pub stopped-each : (bytes : List ℕ) → StopsWithin a b bytes → Sends_each (Ok (only_written bytes)) (by_writer a d x) (by_writer b d x)
        (Err Write)
    stopped-each bytes stops = (
      refl,
      each (Some Output) (by_writer a d x) (by_writer b d x) (text_to name rules.reading from (only_written bytes)) stops
          (prefix-none d []) (prefix-none x []),
    )

    -- by what is written in place of it
    module _ (text : List ℕ) where
      body-each : (body : Result (List ℕ) Fault) → SendsLine {T = Unit {0}} rules.line_end body a b (Ok tt)
          → Sends_each (body_sent rules text body) (by_writer a d x) (by_writer b d x) (Ok false)
      body-each (Ok written) sends = written-each (ended_by rules.line_end written) sends
      body-each (Err f) sends = absurd sends

      body-unsent : (body : Result (List ℕ) Fault) → IsSent body → SendsLine {T = Unit {0}} rules.line_end body a b (Err Write)
          → Sends_each (body_sent rules text body) (by_writer a d x) (by_writer b d x) (Err Write)
      body-unsent (Ok written) none sends = stopped-each (ended_by rules.line_end written) sends.1
      body-unsent (Err f) none sends = let failed : failed_writer Write ≡ None = ap failed_writer sends.0 ∙ none in absurd (cc)

      -- a line at fault, of which nothing was sent before
      body-passed : (body : Result (List ℕ) Fault) (f : Fault) (c : Writer → Option (List ℕ)) (result : Result Bool Fault) → f ≢ Write
          → SendsLine {T = Unit {0}} rules.line_end body a b (Err f) →
          Sends_each (fault_sent rules f (ended_by rules.line_end text)) (by_writer b d x) c result
          → Sends_each (body_sent rules text body) (by_writer a d x) c result
      body-passed (Ok written) f c result other sends passed = absurd (other sends.0)
      body-passed (Err g) f c result other sends passed =
          subst (λ h. Sends_each (fault_sent rules h (ended_by rules.line_end text)) (by_writer a d x) c result) sends.0
          (subst (λ s. Sends_each (fault_sent rules f (ended_by rules.line_end text)) (by_writer s d x) c result) sends.1 passed)

  -- a line at fault: its message is sent, and then its bytes
  module _ (f : Fault) (bytes : List ℕ) where
    module _ (does : passes rules.invalid ≡ true) (named : Fault) (same : named ≡ f) (s t t2 x : Option (List ℕ)) where
      abbrev old : Writer → Option (List ℕ)
      old = by_writer s t x

      abbrev faults : List Fault
      faults = fault_named rules.invalid f

      abbrev Named : Fault → Result Bool Fault → Type 0
      Named g result = Names (messages name rules.reading from (fault_named rules.invalid g))
          (are_any (fault_named rules.invalid g)) t t2 result

      by_passing : (c : Writer → Option (List ℕ)) (result : Result Bool Fault)
          → Sends_each (Ok (passed rules.rejects faults bytes)) old c result → Sends_each (fault_sent rules f bytes) old c result
      by_passing c result sends = subst (λ sent. Sends_each sent old c result) (sym (passes-fault rules f bytes does)) sends

      pub fault-unnamed : (g : Fault) → Named named (Err g) → Sends_each (fault_sent rules f bytes) old (by_writer s t2 x) (Err g)
      fault-unnamed g names =
          subst (λ h. Sends_each (fault_sent rules f bytes) old (by_writer s t2 x) (Err h)) (sym names.0)
          (by_passing (by_writer s t2 x) (Err Report) (
            refl,
            unnamed-stopped name rules.reading from s t t2 x
                (passed rules.rejects faults bytes) (subst (λ h. Named h (Err g)) same names).1,
          ))

      module _ (any : Bool) (names : Named named (Ok any)) (c : Option (List ℕ) → Writer → Option (List ℕ)) where
        abbrev Sends_bytes : Result (Unit {0}) Fault → Type 0
        Sends_bytes result = SendsBytes rules.rejects (λ told. by_writer s told x) c bytes result

        tells : Named f (Ok any)
        tells = subst (λ h. Named h (Ok any)) same names

        pub fault-passed : Sends_bytes (Ok tt) → Sends_each (fault_sent rules f bytes) old (c t2) (Ok any)
        fault-passed sends =
            by_passing (c t2) (Ok any) (
              tells.0,
              passed-received name rules.reading from rules.rejects None s t t2 x
                  (c t2) faults bytes tells.1 (sends t2),
            )

        pub fault-unpassed : (g : Fault) → Sends_bytes (Err g) → Sends_each (fault_sent rules f bytes) old (c t2) (Err g)
        fault-unpassed g sends =
            by_passing (c t2) (Err g) (
              sends.0,
              passed-received name rules.reading from rules.rejects (failed_writer g) s t t2 x
                  (c t2) faults bytes tells.1 (sends.1 t2),
            )

-- a fault that is no failed write
field_other : (n : ℕ) (fault : Fault) → fault ≢ Write → in_field n fault ≢ Write
field_other n (NotText number) other is = cc
field_other n (Line number refusal) other is = cc
field_other n fault other is = other is

other_fault : (f : LineFault) → f ≢ fault.Write → line_fault_of f ≢ Write
other_fault (fault.NotANumber number text) other is = either (λ f. f ≢ Write) (is_utf8 text.now) _ _ (λ same. cc) (λ same. cc) is
other_fault (fault.NotAField number field text) other is = field_other field _
    (either (λ f. f ≢ Write) (is_utf8 text.now) _ _ (λ same. cc) (λ same. cc)) is
other_fault fault.Write other is = other refl
other_fault f other is = cc

-- a line of an input
module _ (rules : Rules) (from to : NotationData) (number : ℕ) (text : List ℕ) where
  -- a record with quotes that are closed, or not
  pub closed-record : is_open (quotes_in rules.span) number text ≡ false
      → record_sent rules from to number text ≡ text_sent rules from to number text
  closed-record closed = rw closed refl

  pub open-record : is_open (quotes_in rules.span) number text ≡ true
      → record_sent rules from to number text ≡ fault_sent rules (Unclosed number) (ended_once rules.line_end false text)
  open-record unclosed = rw unclosed refl

  -- by what is written in place of it
  module _ (name : List ℕ) (a b d x : Option (List ℕ)) (call : Result (Unit {0}) LineFault)
      (sends : SendsLine rules.line_end (body_written rules from to number text) a b (result_map_both (λ sent. sent) line_fault_of call))
    where
      abbrev Sends_text : (new : Writer → Option (List ℕ)) → Result Bool Fault → Type 0
      Sends_text new result = SendsEach name rules.reading from (text_sent rules from to number text) (by_writer a d x) new result

      sends_as : (r : Result (Unit {0}) LineFault) → call ≡ r → SendsLine rules.line_end (body_written rules from to number text) a b
          (result_map_both (λ sent. sent) line_fault_of r)
      sends_as r is =
          subst (λ r. SendsLine rules.line_end (body_written rules from to number text) a b
          (result_map_both (λ sent. sent) line_fault_of r))
          is sends

      pub text-written : (done : Unit {0}) → call ≡ Ok done → Sends_text (by_writer b d x) (Ok false)
      text-written done is = body-each rules name from a b d x text (body_written rules from to number text) (sends_as (Ok done) is)

      pub text-unsent : call ≡ Err fault.Write → Sends_text (by_writer b d x) (Err Write)
      text-unsent is = body-unsent rules name from a b d x text (body_written rules from to number text)
          (body_written-sent rules from to number text) (sends_as (Err fault.Write) is)

      pub text-passed : (f : LineFault) → f ≢ fault.Write → call ≡ Err f → (c : Writer → Option (List ℕ)) (result : Result Bool Fault) →
          SendsEach name rules.reading from (fault_sent rules (line_fault_of f) (ended_by rules.line_end text)) (by_writer b d x) c result
          → Sends_text c result
      text-passed f other is c result passed =
          body-passed rules name from a b d x text (body_written rules from to number text) (line_fault_of f) c result (other_fault f other)
          (sends_as (Err f) is) passed
