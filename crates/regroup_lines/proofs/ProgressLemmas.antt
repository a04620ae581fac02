-- What the lines of an input give that were sent, and how that ends.
use Rattle.regroup_lines.proofs.Common.{◌≡◌, ℕ, ◌+◌, ◌<◌, ◌≤◌, ◌==◌, Bool, true, false, List, [], ◌∷◌, ◌++◌, length, Option, Some, None}
use Rattle.regroup_lines.proofs.Common.{Result, Ok, Err, refl, sym, ap, subst, ◌∙◌, arith, append_assoc, append-nil, ◌-◌, ◌^◌, ◌||◌}
use Rattle.regroup_lines.proofs.Common.{is_some, take, Appends, Consumes, IsAtEnd, Keeps, Range, Consumes-kept, Consumes-nil}
use Rattle.regroup_lines.proofs.Common.{Consumes-trans, length-append, NotationData, StopsWithin, ended_by, Fault, are_any, Flush, Read}
use Rattle.regroup_lines.proofs.Common.{Report, TooLong, TooMany, Unclosed, IsHalt, EndsOrGoesOn, FindsPiece, HasNoEnd, IsLong, IsRecord}
use Rattle.regroup_lines.proofs.Common.{IsStop, Reads, array_len, bytes_at, held, stop_result, stop_text, Regrouped, Sent, Stop}
use Rattle.regroup_lines.proofs.Common.{fault_named, line_after, long_fault, only_written, passed, passes, quotes_in, record_sent}
use Rattle.regroup_lines.proofs.Common.{regrouped, regrouped_after, returning, sending, sending_line, text_sent, Ended, Failed, Unflushed}
use Rattle.regroup_lines.proofs.Common.{Unread, messages, is_open, Names, PassesLong, Receives, ReceivesBytes, ReceivesEach, RegroupsNaming}
use Rattle.regroup_lines.proofs.Common.{Input, InputPiece, Returns, SendsEach, Summary, Writer, by_writer, failed_by, failed_writer}
use Rattle.regroup_lines.proofs.Common.{text_to}
use Rattle.regroup_lines.proofs.Common.{Rules, record_start, ended_once}
use Rattle.regroup_lines.specs.declared.input.InputPiece.TheVariants as piece
use Rattle.regroup_lines.proofs.ChoiceLemmas.{either}
use Rattle.regroup_lines.proofs.LineLemmas.{after-many, last_returned, line-next, long-next, long-stopped, long_fault-begun}
use Rattle.regroup_lines.proofs.LineLemmas.{long_fault-front, rest-empty, rest-halted, rest-line, rest-long}
use Rattle.regroup_lines.proofs.InputLemmas.{Reads-none, found-line, found-rest}
use Rattle.regroup_lines.proofs.SentLemmas.{IsSent, record-sent, text-sent}
use Rattle.regroup_lines.proofs.ToldLemmas.{closed-record}
use Rattle.regroup_lines.proofs.WriterLemmas.{Receives-after, Receives-more, are_any-append, passed-received, received-kept, received-last}
use Rattle.regroup_lines.proofs.WriterLemmas.{receives-nothing, sending-sending, text_to-joined, unnamed-stopped}

or_false : (b : Bool) → (b || false) ≡ b
or_false true = refl
or_false false = refl

some_from : (o : Option Writer) → ¬ (o ≡ None) → is_some o ≡ true
some_from None not = absurd (not refl)
some_from (Some w) not = refl

-- what the first lines of an input give: the bytes that were read, and what was sent; what is sent and returned of the input follows from
-- the bytes that are held
pub record Progress (rules : Rules) (name : List ℕ) (most : ℕ) (from to : NotationData) (count number : ℕ) (has_faults : Bool) (held : List ℕ)
    (read_old read_new : Option (List ℕ)) (old new : Writer → Option (List ℕ)) : Type 0 where
  pub given : List ℕ
  pub sent : Sent
  pub consumed : Consumes read_old read_new given
  pub received : ReceivesEach None old new (text_to name rules.reading from sent)
  pub any : has_faults ≡ are_any sent.named
  pub numbered : 0 < number
  pub within : length held ≤ length given
  pub same : (more : List ℕ) (stop : Stop) → regrouped rules most from to stop (given ++ more)
      ≡ sending sent (regrouped_after rules most from to stop count number (held ++ more))

module _ (rules : Rules) (name : List ℕ) (most : ℕ) (from to : NotationData) (r0 : Option (List ℕ)) (c0 : Writer → Option (List ℕ)) where
  abbrev So_far : (count number : ℕ) → Bool → List ℕ → Option (List ℕ) → (Writer → Option (List ℕ)) → Type 0
  So_far count number has held r1 c1 = Progress rules name most from to count number has held r0 r1 c0 c1

  abbrev Naming : Option (List ℕ) → (Writer → Option (List ℕ)) → Result Summary Fault → Type 0
  Naming r1 c1 result = RegroupsNaming rules name most from to r0 r1 c0 c1 result

  abbrev text : Sent → Writer → List ℕ
  text sent writer = text_to name rules.reading from sent writer

  any_last : (has told : Bool) (sent : Sent) → told ≡ are_any sent.named → (has || told) ≡ (has || are_any (sent.named ++ []))
  any_last has told sent any = ap (λ b. has || b) (any ∙ ap are_any (sym (append-nil sent.named)))

  -- a line of which all is sent
  sent_of : (line : Result Sent Fault) (told : Bool) (c1 c2 : Writer → Option (List ℕ))
      → SendsEach name rules.reading from line c1 c2 (Ok told) → (sent : Sent) × (line ≡ Ok sent) × (told ≡ are_any sent.named)
      × ReceivesEach None c1 c2 (text sent)
  sent_of (Ok sent) told c1 c2 sends = (sent, refl, sends.0, sends.1)
  sent_of (Err fault) told c1 c2 sends = absurd sends

  pub Progress-none : (held : List ℕ) → held ≡ [] → So_far 0 1 false held r0 c0
  Progress-none held empty = record {
    given = [];
    sent = only_written [];
    consumed = Consumes-nil r0;
    received = receives-nothing name rules.reading from c0;
    any = refl;
    numbered = omega arith;
    within = let none = ap length empty in omega (arith, none);
    same = λ more stop. ap (λ l. regrouped_after rules most from to stop 0 1 (l ++ more)) (sym empty);
  }

  module _ (count number : ℕ) (has : Bool) (r1 : Option (List ℕ)) where
    -- the writer is flushed
    pub Progress-kept : (held : List ℕ) (s1 s2 t x : Option (List ℕ)) → So_far count number has held r1 (by_writer s1 t x) → Keeps s1 s2
        → So_far count number has held r1 (by_writer s2 t x)
    Progress-kept held s1 s2 t x so_far kept = record {
      given = so_far.given;
      sent = so_far.sent;
      consumed = so_far.consumed;
      received = received-kept (text so_far.sent) c0 s1 s2 t x so_far.received kept;
      any = so_far.any;
      numbered = so_far.numbered;
      within = so_far.within;
      same = so_far.same;
    }

    module _ (c1 : Writer → Option (List ℕ)) where
      -- more bytes are read
      pub Progress-reads : (held bytes : List ℕ) (r2 : Option (List ℕ)) → So_far count number has held r1 c1 → Reads held bytes r1 r2
          → So_far count number has bytes r2 c1
      Progress-reads held bytes r2 so_far read = record {
        given = so_far.given ++ read.given;
        sent = so_far.sent;
        consumed = Consumes-trans r0 r1 r2 so_far.given read.given so_far.consumed read.consumed;
        received = so_far.received;
        any = so_far.any;
        numbered = so_far.numbered;
        within = let all = ap length read.joined in let before = so_far.within
            in omega (arith, all, before, length-append held read.given, length-append so_far.given read.given);
        same = λ more stop.
            ap (regrouped rules most from to stop) (append_assoc so_far.given read.given more) ∙ so_far.same (read.given ++ more) stop
            ∙ ap (λ l. sending so_far.sent (regrouped_after rules most from to stop count number l))
            (sym (append_assoc held read.given more) ∙ ap (λ l. l ++ more) read.joined);
      }

      -- a line is sent
      Progress-line : (line left : List ℕ) (sent : Sent) (told : Bool) (c2 : Writer → Option (List ℕ))
          → So_far count number has (line ++ rules.line_end ∷ left) r1 c1 →
          ((stop : Stop) (bytes : List ℕ) → regrouped_after rules most from to stop count number (line ++ rules.line_end ∷ bytes)
          ≡ sending sent (regrouped_after rules most from to stop (count + 1) (line_after rules number line) bytes)) →
          told ≡ are_any sent.named → ReceivesEach None c1 c2 (text sent)
          → So_far (count + 1) (line_after rules number line) (has || told) left r1 c2
      Progress-line line left sent told c2 so_far next any receives = record {
        given = so_far.given;
        sent = _;
        consumed = so_far.consumed;
        received = λ w. subst (Appends (c0 w) (c2 w)) (sym (text_to-joined name rules.reading from so_far.sent sent w))
            (Receives-after None w (c0 w) (c1 w) (c2 w) _ _ (so_far.received w) (receives w));
        any = ap (λ b. b || told) so_far.any ∙ ap (λ b. are_any so_far.sent.named || b) any
            ∙ sym (are_any-append so_far.sent.named sent.named);
        numbered = omega arith;
        within = let before = so_far.within in omega (arith, before, length-append line (rules.line_end ∷ left));
        same = λ more stop.
            so_far.same more stop
            ∙ ap (λ l. sending so_far.sent (regrouped_after rules most from to stop count number l))
            (append_assoc line (rules.line_end ∷ left) more)
            ∙ ap (sending so_far.sent) (next stop (left ++ more))
            ∙ sending-sending so_far.sent sent (regrouped_after rules most from to stop (count + 1) (line_after rules number line)
            (left ++ more));
      }

      -- how it ends, by what the definition says of the bytes that are held
      module _ (held : List ℕ) (stop : Stop) (so_far : So_far count number has held r1 c1) (all : Regrouped)
          (is : regrouped_after rules most from to stop count number held ≡ all) where
        whole : regrouped rules most from to stop so_far.given ≡ sending so_far.sent all
        whole =
            ap (regrouped rules most from to stop) (sym (append-nil so_far.given)) ∙ so_far.same [] stop
            ∙ ap (λ l. sending so_far.sent (regrouped_after rules most from to stop count number l)) (append-nil held)
            ∙ ap (sending so_far.sent) is

        -- what is returned after it
        abbrev Then : Result Summary Fault → Type 0
        Then (Ok summary) = (all.returned ≡ Some (Ok summary.lines)) × (summary.has_faults ≡ (has || are_any all.sent.named))
        Then (Err fault) = failed_writer fault ≡ None → all.returned ≡ Some (Err fault)

        returns : (result : Result Summary Fault) → Then result → Returns (sending so_far.sent all) result
        returns (Ok summary) so = (
          so.0,
          so.1 ∙ ap (λ b. b || are_any all.sent.named) so_far.any
              ∙ sym (are_any-append so_far.sent.named all.sent.named),
        )
        returns (Err fault) so = so

        naming : (c2 : Writer → Option (List ℕ)) (result : Result Summary Fault) → IsStop rules.flushes stop held r1 → Then result
            → ReceivesEach (failed_by result) c1 c2 (text all.sent) → Naming r1 c2 result
        naming c2 result known so receives = record {
          given = so_far.given;
          stop = stop;
          consumed = so_far.consumed;
          at_end = λ is. subst (λ stop. IsStop rules.flushes stop held r1) is known;
          endless = λ is. let enough : 2 ^ 64 - 1 ≤ length held = subst (λ stop. IsStop rules.flushes stop held r1) is known in let within =
              so_far.within in omega (arith, enough, within);
          unflushed = λ is. subst (λ stop. IsStop rules.flushes stop held r1) is known;
          returned = subst (λ (a : Regrouped). Returns a result) (sym whole) (returns result so);
          received = subst (λ (a : Regrouped). ReceivesEach (failed_by result) c0 c2 (text a.sent)) (sym whole)
              (λ w. subst (Receives (failed_by result) w (c0 w) (c2 w)) (sym
              (text_to-joined name rules.reading from so_far.sent all.sent w))
              (Receives-after (failed_by result) w (c0 w) (c1 w) (c2 w) _ _ (so_far.received w) (receives w)));
        }

      -- a fault of no write, after the lines that were sent
      Regroups-fault : (held : List ℕ) (stop : Stop) (fault : Fault) (c2 : Writer → Option (List ℕ)) → So_far count number has held r1 c1
          → IsStop rules.flushes stop held r1 →
          regrouped_after rules most from to stop count number held ≡ returning (Some (Err fault)) → failed_writer fault ≡ None
          → ((w : Writer) → c2 w ≡ c1 w) → Naming r1 c2 (Err fault)
      Regroups-fault held stop fault c2 so_far known is other kept =
          naming held stop so_far (returning (Some (Err fault))) is c2 (Err fault) known (λ none. refl)
          (subst (λ f. ReceivesEach f c1 c2 (text (only_written []))) (sym other)
          (λ w. subst (λ c. Appends (c1 w) c (text (only_written []) w)) (sym (kept w)) (receives-nothing name rules.reading from c1 w)))

      -- what is sent of the last line, and nothing after it
      Regroups-last_sent : (held : List ℕ) (stop : Stop) (sent : Sent) (returned : Option (Result ℕ Fault))
          → IsStop rules.flushes stop held r1 → (is : regrouped_after rules most from to stop count number held
          ≡ sending sent (returning returned)) (so_far : So_far count number has held r1 c1)
          → (c2 : Writer → Option (List ℕ)) (result : Result Summary Fault) →
          Then held stop so_far (sending sent (returning returned)) is result → ReceivesEach (failed_by result) c1 c2 (text sent)
          → Naming r1 c2 result
      Regroups-last_sent held stop sent returned known is so_far c2 result so receives =
          naming held stop so_far (sending sent (returning returned)) is c2 result known so
          (λ w. subst (Receives (failed_by result) w (c1 w) (c2 w)) (sym (received-last name rules.reading from sent w)) (receives w))

      -- a line of which nothing is sent, or not all
      Regroups-stopped : (held : List ℕ) (stop : Stop) (line : Result Sent Fault) (rest : Regrouped) (fault : Fault) (c2 : Writer
          → Option (List ℕ)) → So_far count number has held r1 c1 → IsStop rules.flushes stop held r1 →
          regrouped_after rules most from to stop count number held ≡ sending_line line rest → IsSent line
          → SendsEach name rules.reading from line c1 c2 (Err fault) → Naming r1 c2 (Err fault)
      Regroups-stopped held stop (Ok sent) rest fault c2 so_far known is other sends =
          naming held stop so_far (sending sent rest) is c2 (Err fault) known (λ none. let failed = sends.0
          in let some : is_some (failed_writer fault) ≡ false = ap is_some none in absurd (cc))
          (λ w. subst (Receives (failed_writer fault) w (c1 w) (c2 w)) (sym (text_to-joined name rules.reading from sent rest.sent w))
          (Receives-more (failed_writer fault) w (c1 w) (c2 w) _ _ sends.0 (sends.1 w)))
      Regroups-stopped held stop (Err first) rest fault c2 so_far known is other sends =
          subst (λ f. Naming r1 c2 (Err f)) (sym sends.0) (Regroups-fault held stop first c2 so_far known is other sends.1)

  -- what the next piece of the input gives, where so many lines were sent, and the writer is flushed
  module _ (count number : ℕ) (has : Bool) (few : count < most) (r1 r2 s1 s t x : Option (List ℕ)) (before : List ℕ)
      (so_far : So_far count number has before r1 (by_writer s1 t x)) (kept : Keeps s1 s) where
    abbrev c1 : Writer → Option (List ℕ)
    c1 = by_writer s t x

    reached : (bytes : List ℕ) → Reads before bytes r1 r2 → So_far count number has bytes r2 c1
    reached bytes read = Progress-reads count number has r1 c1 before bytes r2
        (Progress-kept count number has r1 before s1 s t x so_far kept) read

    abbrev Finds : Input → InputPiece → Type 0
    Finds input found = FindsPiece (quotes_in rules.span) rules.line_end (record_start number) before input r1 r2 found

    -- a line
    module _ (input : Input) (found : InputPiece) (finds : Finds input found) (place : Range ℕ) (is : found ≡ piece.Line place)
        (len : array_len input ≡ rules.max_line_len + 1) (line : List ℕ) (same : line ≡ bytes_at input place) where
      abbrev left : List ℕ
      left = held input

      found_line : Reads before (line ++ rules.line_end ∷ left) r1 r2 × IsRecord (quotes_in rules.span) rules.line_end
          (record_start number) line × (length line < array_len input)
      found_line = found-line (quotes_in rules.span) rules.line_end (record_start number) before input r1 r2 found finds place line same is

      abbrev line_ends : So_far count number has (line ++ rules.line_end ∷ left) r2 c1
      line_ends = reached (line ++ rules.line_end ∷ left) found_line.0

      next_so : (stop : Stop) (bytes : List ℕ) → regrouped_after rules most from to stop count number (line ++ rules.line_end ∷ bytes)
          ≡ sending_line (text_sent rules from to number line) (regrouped_after rules most from to stop (count + 1)
          (line_after rules number line) bytes)
      next_so stop bytes =
          let below = found_line.2 in
          line-next rules most from to stop count number line bytes so_far.numbered found_line.1 (omega arith) (omega (arith, below, len))
          ∙ ap (λ sent. sending_line sent (regrouped_after rules most from to stop (count + 1) (line_after rules number line) bytes))
          (closed-record rules from to number line found_line.1.1)

      pub Progress-next : (told : Bool) (c2 : Writer → Option (List ℕ))
          → SendsEach name rules.reading from (text_sent rules from to number line) c1 c2 (Ok told) →
          So_far (count + 1) (line_after rules number line) (has || told) left r2 c2
      Progress-next told c2 sends =
          let all = sent_of (text_sent rules from to number line) told c1 c2 sends in
          Progress-line count number has r2 c1 line left all.0 told c2 line_ends
          (λ stop bytes. next_so stop bytes ∙ ap (λ sent. sending_line sent
          (regrouped_after rules most from to stop (count + 1) (line_after rules number line) bytes)) all.1) all.2 all.3

      pub Regroups-line : (fault : Fault) (c2 : Writer → Option (List ℕ))
          → SendsEach name rules.reading from (text_sent rules from to number line) c1 c2 (Err fault) → Naming r2 c2 (Err fault)
      Regroups-line fault c2 sends =
          Regroups-stopped count number has r2 c1 (line ++ rules.line_end ∷ left) Unread (text_sent rules from to number line)
          (regrouped_after rules most from to Unread (count + 1) (line_after rules number line) left) fault c2
          line_ends tt (next_so Unread left) (text-sent rules from to number line) sends

    -- bytes after the last line
    module _ (input : Input) (found : InputPiece) (finds : Finds input found) (place : Range ℕ) (is : found ≡ piece.Rest place)
        (len : array_len input ≡ rules.max_line_len + 1) (rest : List ℕ) (same : rest ≡ bytes_at input place) where
      found_rest : Reads before rest r1 r2 × HasNoEnd (quotes_in rules.span) rules.line_end (record_start number) rest
          × (length rest < array_len input) × IsAtEnd r2
      found_rest = found-rest (quotes_in rules.span) rules.line_end (record_start number) before input r1 r2 found finds place rest same is

      pub Regroups-empty : (length rest == 0) ≡ true → Naming r2 c1 (Ok (record { lines = count; has_faults = has }))
      Regroups-empty empty =
          naming count number has r2 c1 rest Ended (reached rest found_rest.0) (returning (Some (Ok count)))
          (rest-empty rules most from to count number rest found_rest.1 empty) c1 (Ok (record { lines = count; has_faults = has }))
          found_rest.3 (refl, sym (or_false has)) (receives-nothing name rules.reading from c1)

      module _ (some : (length rest == 0) ≡ false) (c2 : Writer → Option (List ℕ)) where
        last_so : regrouped_after rules most from to Ended count number rest
            ≡ sending_line (record_sent rules from to number rest) (returning (Some (Ok (count + 1))))
        last_so = let below = found_rest.2 in rest-line rules most from to count number rest found_rest.1 some (omega arith)
            (omega (arith, below, len))

        pub Regroups-last : (told : Bool) → SendsEach name rules.reading from (record_sent rules from to number rest) c1 c2 (Ok told)
            → Naming r2 c2 (Ok (record { lines = count + 1; has_faults = has || told }))
        Regroups-last told sends =
            let all = sent_of (record_sent rules from to number rest) told c1 c2 sends in
            Regroups-last_sent count number has r2 c1 rest Ended all.0 (Some (Ok (count + 1))) found_rest.3 (last_so
            ∙ ap (λ sent. sending_line sent (returning (Some (Ok (count + 1))))) all.1) (reached rest found_rest.0) c2
            (Ok (record { lines = count + 1; has_faults = has || told })) (refl, any_last has told all.0 all.2) all.3

        pub Regroups-last_fault : (fault : Fault) → SendsEach name rules.reading from (record_sent rules from to number rest) c1 c2
            (Err fault) → Naming r2 c2 (Err fault)
        Regroups-last_fault fault sends =
            Regroups-stopped count number has r2 c1 rest Ended (record_sent rules from to number rest)
            (returning (Some (Ok (count + 1)))) fault c2 (reached rest found_rest.0) found_rest.3
            last_so (record-sent rules from to number rest) sends

    -- a read or a flush fails
    pub Regroups-halted : (bytes : List ℕ) → Reads before bytes r1 r2 → HasNoEnd (quotes_in rules.span) rules.line_end
        (record_start number) bytes → length bytes ≤ rules.max_line_len → (fault : Fault) → IsHalt rules.flushes fault →
        Naming r2 c1 (Err fault)
    Regroups-halted bytes read none short Read is =
        Regroups-fault count number has r2 c1 bytes Failed Read c1 (reached bytes read) tt
        (rest-halted rules most from to Failed count number bytes none (omega arith) short refl) refl (λ w. refl)
    Regroups-halted bytes read none short Flush is =
        Regroups-fault count number has r2 c1 bytes Unflushed Flush c1 (reached bytes read) is
        (rest-halted rules most from to Unflushed count number bytes none (omega arith) short refl) refl (λ w. refl)
    Regroups-halted bytes read none short fault is = absurd is

    -- a record that is too long
    module _ (input : Input) (found : InputPiece) (finds : Finds input found) (is : found ≡ piece.TooLong) (len : array_len input
        ≡ rules.max_line_len + 1) where
      abbrev begun : List ℕ
      begun = held input

      abbrev fault_long : Fault
      fault_long = long_fault rules number begun

      found_long : Reads before begun r1 r2 × HasNoEnd (quotes_in rules.span) rules.line_end (record_start number) begun
          × (array_len input ≤ length begun)
      found_long = subst (Finds input) is finds

      is_long : IsLong rules number begun
      is_long = record { no_end = found_long.1; long = let long = found_long.2 in omega (arith, long, len) }

      pub Regroups-long : passes rules.invalid ≡ false → Naming r2 c1 (Err fault_long)
      Regroups-long aborts =
          Regroups-fault count number has r2 c1 begun Unread fault_long c1 (reached begun found_long.0) tt
          (rest-long rules most from to count number begun (omega arith) is_long aborts)
          (either (λ fault. failed_writer fault ≡ None) (is_open (quotes_in rules.span) number (take (rules.max_line_len + 1) begun))
          (Unclosed number) (TooLong number rules.max_line_len) refl refl) (λ w. refl)

      module _ (does : passes rules.invalid ≡ true) (named : Fault) (same : named ≡ fault_long) (t2 : Option (List ℕ)) where
        abbrev faults : List Fault
        faults = fault_named rules.invalid fault_long

        abbrev long_sent : List ℕ → Sent
        long_sent bytes = passed rules.rejects faults bytes

        abbrev Told : Result Bool Fault → Type 0
        Told result = Names (messages name rules.reading from (fault_named rules.invalid named))
            (are_any (fault_named rules.invalid named)) t t2 result

        -- the reader stopped in it
        module _ (stop : Stop) (bytes : List ℕ) (r3 : Option (List ℕ)) (more : Reads begun bytes r2 r3) (long : IsLong rules number bytes)
            (known : IsStop rules.flushes stop bytes r3) where
          abbrev all : Regrouped
          all = sending (long_sent (stop_text rules.line_end stop bytes)) (returning (last_returned count stop))

          stopped_so : regrouped_after rules most from to stop count number bytes ≡ all
          stopped_so = long-stopped rules most from to count number bytes (omega arith) long fault_long
              (long_fault-begun rules number begun bytes r2 r3 is_long.long more) does stop

          abbrev after : So_far count number has bytes r3 c1
          after = Progress-reads count number has r2 c1 begun bytes r3 (reached begun found_long.0) more

          long_stops : (c2 : Writer → Option (List ℕ)) (result : Result Summary Fault)
              → Then count number has r3 c1 bytes stop after all stopped_so result →
              ReceivesEach (failed_by result) c1 c2 (text (long_sent (stop_text rules.line_end stop bytes))) → Naming r3 c2 result
          long_stops c2 result so receives =
              Regroups-last_sent count number has r3 c1 bytes stop (long_sent (stop_text rules.line_end stop bytes))
              (last_returned count stop) known stopped_so after c2 result so receives

        -- its message is not sent
        pub Regroups-long_unnamed : (fault : Fault) → Told (Err fault) → Naming r2 (by_writer s t2 x) (Err fault)
        Regroups-long_unnamed fault names =
            subst (λ f. Naming r2 (by_writer s t2 x) (Err f)) (sym names.0)
            (long_stops Unread begun r2 (Reads-none begun r2) is_long tt (by_writer s t2 x) (Err Report) (λ none. absurd (cc))
            (unnamed-stopped name rules.reading from s t t2 x (long_sent begun)
            (subst (λ f. StopsWithin t t2 (messages name rules.reading from (fault_named rules.invalid f))) same names.1)))

        -- its message is sent, and then it is passed on
        module _ (told : Bool) (names : Told (Ok told)) (r3 : Option (List ℕ)) (of : Option (List ℕ) → Writer
            → Option (List ℕ)) (after_number : ℕ) (left : List ℕ) where
          abbrev Passes : Result Bool Fault → Type 0
          Passes result = PassesLong rules number after_number begun left r2 r3 (λ told. by_writer s told x) of result

          any : told ≡ are_any faults
          any = names.0 ∙ ap (λ f. are_any (fault_named rules.invalid f)) same

          receives : (failed : Option Writer) (bytes : List ℕ) → ReceivesBytes rules.rejects failed (λ told. by_writer s told x) of bytes
              → ReceivesEach failed c1 (of t2) (text (long_sent bytes))
          receives failed bytes sent =
              passed-received name rules.reading from rules.rejects failed s t t2 x (of t2) faults bytes
              (subst (λ f. Appends t t2 (messages name rules.reading from (fault_named rules.invalid f))) same names.1) (sent t2)

          -- the byte that ends it
          module _ (bytes : List ℕ) (more : Reads begun (bytes ++ rules.line_end ∷ left) r2 r3) (long : IsLong rules number bytes)
              (closed : is_open (quotes_in rules.span) number bytes ≡ false) where
            abbrev after_line : So_far count number has (bytes ++ rules.line_end ∷ left) r3 c1
            after_line = Progress-reads count number has r2 c1 begun (bytes ++ rules.line_end ∷ left) r3 (reached begun found_long.0) more

            next_long : (stop : Stop) (others : List ℕ) → regrouped_after rules most from to stop count number
                (bytes ++ rules.line_end ∷ others)
                ≡ sending (long_sent (ended_by rules.line_end bytes)) (regrouped_after rules most from to stop (count + 1)
                (line_after rules number bytes) others)
            next_long stop others =
                long-next rules most from to count number bytes (omega arith) long fault_long
                (sym (long_fault-front rules number bytes (rules.line_end ∷ left) long.long)
                ∙ long_fault-begun rules number begun (bytes ++ rules.line_end ∷ left) r2 r3 is_long.long more) does stop others
                so_far.numbered closed

          pub Progress-long : (ended : Bool) → ended ≡ false → Passes (Ok ended)
              → So_far (count + 1) after_number (has || told) left r3 (of t2)
          Progress-long ended is (PassesLong.to_end bytes read long closed sent returned) =
              subst (λ n. So_far (count + 1) n (has || told) left r3 (of t2)) (sym (returned refl).1)
              (Progress-line count number has r3 c1 bytes left (long_sent (ended_by rules.line_end bytes)) told (of t2)
              (after_line bytes read long closed) (next_long bytes read long closed) any
              (receives None (ended_by rules.line_end bytes) sent))
          Progress-long ended is (PassesLong.to_stop Ended bytes read long known sent returned) = let so = returned refl in absurd (cc)
          Progress-long ended is (PassesLong.to_stop stop bytes read long known sent returned) = let so = returned refl in absurd (cc)

          -- the last one, or one that is not all sent
          pub Regroups-long_ended : (ended : Bool) → ended ≡ true → Passes (Ok ended)
              → Naming r3 (of t2) (Ok (record { lines = count + 1; has_faults = has || told }))
          Regroups-long_ended ended is (PassesLong.to_end bytes read long closed sent returned) = let so = (returned refl).0 in absurd (cc)
          Regroups-long_ended ended is (PassesLong.to_stop Ended bytes read long known sent returned) =
              long_stops Ended bytes r3 read long known (of t2) (Ok (record { lines = count + 1; has_faults = has || told })) (
                refl,
                any_last has told (long_sent (ended_once rules.line_end false bytes)) any,
              )
              (receives None (ended_once rules.line_end false bytes) sent)
          Regroups-long_ended ended is (PassesLong.to_stop stop bytes read long known sent returned) = let so = returned refl in absurd (cc)

          returned_so : (fault : Fault) (stop : Stop) → (failed_writer fault ≡ None → stop_result stop ≡ Some (Err fault))
              → failed_writer fault ≡ None → last_returned count stop ≡ Some (Err fault)
          returned_so fault Ended so none = let is = so none in absurd (cc)
          returned_so fault stop so none = let is = so none in cc

          pub Regroups-long_failed : (fault : Fault) → Passes (Err fault) → Naming r3 (of t2) (Err fault)
          Regroups-long_failed fault (PassesLong.to_end bytes read long closed sent returned) =
              Regroups-stopped count number has r3 c1 (bytes ++ rules.line_end ∷ left) Unread
              (Ok (long_sent (ended_by rules.line_end bytes)))
              (regrouped_after rules most from to Unread (count + 1) (line_after rules number bytes) left) fault (of t2)
              (after_line bytes read long closed) tt (next_long bytes read long closed Unread left) tt (
                some_from (failed_writer fault) (λ none. let is = (returned none).0 in absurd (cc)),
                receives (failed_writer fault) (ended_by rules.line_end bytes) sent,
              )
          Regroups-long_failed fault (PassesLong.to_stop stop bytes read long known sent returned) =
              long_stops stop bytes r3 read long known (of t2) (Err fault) (returned_so fault stop returned)
              (receives (failed_writer fault) (stop_text rules.line_end stop bytes) sent)

  -- what follows the last line allowed, where the writer is flushed
  module _ (count number : ℕ) (has : Bool) (all : count ≡ most) (r1 r2 s1 s t x : Option (List ℕ)) (before : List ℕ)
      (so_far : So_far count number has before r1 (by_writer s1 t x)) (kept : Keeps s1 s) where
    abbrev flushed : Writer → Option (List ℕ)
    flushed = by_writer s t x

    all_sent : (bytes : List ℕ) → Reads before bytes r1 r2 → So_far most number has bytes r2 flushed
    all_sent bytes read =
        Progress-reads most number has r1 flushed before bytes r2
        (subst (λ n. So_far n number has before r1 flushed) all (Progress-kept count number has r1 before s1 s t x so_far kept)) read

    module _ (end : Bool) (found : EndsOrGoesOn before r1 r2 end) where
      pub Regroups-all : end ≡ true → Naming r2 flushed (Ok (record { lines = most; has_faults = has }))
      Regroups-all is =
          let ends = subst (EndsOrGoesOn before r1 r2) is found in
          naming most number has r2 flushed [] Ended (all_sent [] ends.0) (returning (Some (Ok most))) refl flushed
          (Ok (record { lines = most; has_faults = has }))
          ends.1 (refl, sym (or_false has)) (receives-nothing name rules.reading from flushed)

      pub Regroups-many : end ≡ false → Naming r2 flushed (Err TooMany)
      Regroups-many is =
          let goes_on = subst (EndsOrGoesOn before r1 r2) is found in
          Regroups-fault most number has r2 flushed goes_on.0 Unread TooMany flushed (all_sent goes_on.0 goes_on.1) tt
          (after-many rules most from to number goes_on.0 goes_on.2) refl (λ w. refl)

    -- nothing follows that was read, and a read or a flush fails
    module _ (empty : before ≡ []) (same : Keeps r1 r2) where
      unread : So_far most number has [] r2 flushed
      unread = all_sent [] (record {
        given = [];
        joined = append-nil before ∙ empty;
        consumed = Consumes-kept r1 r1 r2 [] (Consumes-nil r1) same;
      })

      pub Regroups-unread : (fault : Fault) → IsHalt rules.flushes fault → Naming r2 flushed (Err fault)
      Regroups-unread Read is = Regroups-fault most number has r2 flushed [] Failed Read flushed unread tt refl refl (λ w. refl)
      Regroups-unread Flush is = Regroups-fault most number has r2 flushed [] Unflushed Flush flushed unread is refl refl (λ w. refl)
      Regroups-unread fault is = absurd is
