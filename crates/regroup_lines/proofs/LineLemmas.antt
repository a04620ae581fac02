-- What regrouping writes and returns, record after record.
use Rattle.regroup_lines.proofs.Common.{◌≡◌, ℕ, ◌+◌, ◌<◌, ◌≤◌, ◌==◌, Bool, true, false, List, [], ◌∷◌, ◌++◌, length, take, Option, Some, Ok}
use Rattle.regroup_lines.proofs.Common.{Err, if◌then◌else◌, refl, sym, ap, ◌∙◌, arith, Result, nat_lt, join_with_byte, eqb-true}
use Rattle.regroup_lines.proofs.Common.{false_from_ne_true, Decides-ltb, take-append-le, NotationData, ended_by, Fault, TooLong, TooMany}
use Rattle.regroup_lines.proofs.Common.{Unclosed, HasNoEnd, IsLong, IsRecord, Reads, stop_text, Regrouped, Sent, Stop, fault_named}
use Rattle.regroup_lines.proofs.Common.{fault_sent, line_after, line_begun, line_reached, line_sent, long_fault, long_returned, passed}
use Rattle.regroup_lines.proofs.Common.{passes, quotes_in, record_sent, regrouped_after, regrouped_parts, regrouped_rest, returning}
use Rattle.regroup_lines.proofs.Common.{sending, sending_line, stop_returned, Ended, Unread, is_open, record_start, split_at, Start, Rules}
use Rattle.regroup_lines.proofs.ChoiceLemmas.{either}
use Rattle.regroup_lines.proofs.RecordLemmas.{split-first, split-joined, split-none, split-some, start-next}

not_less : (a b : ℕ) → b ≤ a → nat_lt a b ≡ false
not_less a b le = false_from_ne_true (nat_lt a b) (λ yes. let less = (Decides-ltb a b).0 yes in omega arith)

not_zero : (n : ℕ) → 0 < n → (n == 0) ≡ false
not_zero n some = false_from_ne_true (n == 0) (λ yes. let none = eqb-true n 0 yes in omega arith)

-- a fault that ends the run, and one that does not
pub aborts-fault : (rules : Rules) (fault : Fault) (bytes : List ℕ) → passes rules.invalid ≡ false
    → fault_sent rules fault bytes ≡ Err fault
aborts-fault rules fault bytes aborts =
    ap (λ (b : Bool). if b then Ok (passed rules.rejects (fault_named rules.invalid fault) bytes) else Err fault) aborts

pub passes-fault : (rules : Rules) (fault : Fault) (bytes : List ℕ) → passes rules.invalid ≡ true
    → fault_sent rules fault bytes ≡ Ok (passed rules.rejects (fault_named rules.invalid fault) bytes)
passes-fault rules fault bytes does =
    ap (λ (b : Bool). if b then Ok (passed rules.rejects (fault_named rules.invalid fault) bytes) else Err fault) does

-- the fault of bytes that are too long is that of their beginning
pub long_fault-begun : (rules : Rules) (number : ℕ) (begun text : List ℕ) (old new : Option (List ℕ)) → rules.max_line_len < length begun
    → Reads begun text old new →
    long_fault rules number text ≡ long_fault rules number begun
long_fault-begun rules number begun text old new long read =
    ap (λ l. if is_open (quotes_in rules.span) number l then Unclosed number else TooLong number rules.max_line_len)
    (ap (take (rules.max_line_len + 1)) (sym read.joined) ∙ take-append-le (rules.max_line_len + 1) begun read.given (omega (arith, long)))

-- and so of bytes that are that long
pub long_fault-front : (rules : Rules) (number : ℕ) (text more : List ℕ) → rules.max_line_len < length text
    → long_fault rules number (text ++ more) ≡ long_fault rules number text
long_fault-front rules number text more long =
    ap (λ l. if is_open (quotes_in rules.span) number l then Unclosed number else TooLong number rules.max_line_len)
    (take-append-le (rules.max_line_len + 1) text more (omega (arith, long)))

-- what is returned of a record that is too long, by how the reader stopped in it, with so many records before it
abbrev pub last_returned : (count : ℕ) → Stop → Option (Result ℕ Fault)
last_returned count Ended = Some (Ok (count + 1))
last_returned count stop = long_returned stop

module _ (rules : Rules) (most : ℕ) (from to : NotationData) where
  abbrev q : Option ℕ
  q = quotes_in rules.span

  abbrev e : ℕ
  e = rules.line_end

  -- a part that others follow is a record
  abbrev line_and : ℕ → ℕ → (ended : List ℕ) → List ℕ → Regrouped → Regrouped
  line_and count number ended text rest = sending_line (line_sent rules most from to count number ended text) rest

  abbrev text_and : ℕ → List ℕ → Regrouped → Regrouped
  text_and number text rest = sending_line (record_sent rules from to number text) rest

  line_and-text : (count number : ℕ) (ended text : List ℕ) (rest : Regrouped) → count + 1 ≤ most → length text ≤ rules.max_line_len
      → line_and count number ended text rest ≡ text_and number text rest
  line_and-text count number ended text rest few short = rw (
    not_less most (count + 1) few,
    not_less rules.max_line_len (length text) short,
  ) refl

  parts-line : (stop : Stop) (count number : ℕ) (text : List ℕ) (parts : List (List ℕ)) → 0 < length parts →
      regrouped_parts rules most from to stop count number (text ∷ parts)
      ≡ line_and count number (ended_by e text) text (regrouped_parts rules most from to stop (count + 1)
      (line_after rules number text) parts)
  parts-line stop count number text [] some = absurd (omega arith)
  parts-line stop count number text (next ∷ parts) some = refl

  -- a record, and the bytes after it
  after-line : (stop : Stop) (count number : ℕ) (text bytes : List ℕ) → 0 < number → IsRecord q e (record_start number) text →
      regrouped_after rules most from to stop count number (text ++ e ∷ bytes)
      ≡ line_and count number (ended_by e text) text (regrouped_after rules most from to stop (count + 1)
      (line_after rules number text) bytes)
  after-line stop count number text bytes some is =
      ap (regrouped_parts rules most from to stop count number) (split-first q e (record_start number) text bytes is)
      ∙ parts-line stop count number text (split_at q e Start bytes) (split-some q e Start bytes)
      ∙ ap (λ w. line_and count number (ended_by e text) text (regrouped_parts rules most from to stop (count + 1)
      (line_after rules number text) (split_at q e w bytes)))
      (sym (start-next (line_reached q e number text) (omega (arith, some))))

  -- bytes after the last record
  after-rest : (stop : Stop) (count number : ℕ) (text : List ℕ) → HasNoEnd q e (record_start number) text
      → regrouped_after rules most from to stop count number text ≡ regrouped_rest rules most from to stop count number text
  after-rest stop count number text none = ap (regrouped_parts rules most from to stop count number)
      (split-none q e (record_start number) text none)

  abbrev last : ℕ → Regrouped
  last count = returning (Some (Ok count))

  pub rest-empty : (count number : ℕ) (text : List ℕ) → HasNoEnd q e (record_start number) text → (length text == 0) ≡ true
      → regrouped_after rules most from to Ended count number text ≡ last count
  rest-empty count number text none empty = after-rest Ended count number text none ∙ (rw empty refl)

  pub rest-line : (count number : ℕ) (text : List ℕ) → HasNoEnd q e (record_start number) text → (length text == 0) ≡ false
      → count + 1 ≤ most → length text ≤ rules.max_line_len →
      regrouped_after rules most from to Ended count number text ≡ text_and number text (last (count + 1))
  rest-line count number text none some few short = after-rest Ended count number text none
      ∙ (rw some (line_and-text count number _ text (last (count + 1)) few short))

  pub line-next : (stop : Stop) (count number : ℕ) (text bytes : List ℕ) → 0 < number → IsRecord q e (record_start number) text
      → count + 1 ≤ most → length text ≤ rules.max_line_len →
      regrouped_after rules most from to stop count number (text ++ e ∷ bytes)
      ≡ text_and number text (regrouped_after rules most from to stop (count + 1) (line_after rules number text) bytes)
  line-next stop count number text bytes some is few short =
      after-line stop count number text bytes some is ∙ line_and-text count number _ text
      (regrouped_after rules most from to stop (count + 1) (line_after rules number text) bytes) few short

  -- a failed read or flush
  pub rest-halted : (stop : Stop) (count number : ℕ) (text : List ℕ) → HasNoEnd q e (record_start number) text → count + 1 ≤ most
      → length text ≤ rules.max_line_len →
      regrouped_rest rules most from to stop count number text ≡ line_begun rules most stop count number text
      → regrouped_after rules most from to stop count number text ≡ returning (stop_returned stop)
  rest-halted stop count number text none few short rest =
      after-rest stop count number text none ∙ rest
      ∙ either (λ run. run ≡ returning (stop_returned stop)) (length text == 0) (returning (stop_returned stop)) _ refl
      (rw (not_less most (count + 1) few, not_less rules.max_line_len (length text) short) refl)

  -- a record that is too long
  module _ (count number : ℕ) (text : List ℕ) (few : count + 1 ≤ most) (is : IsLong rules number text) where
    over : nat_lt rules.max_line_len (length text) ≡ true
    over = (Decides-ltb rules.max_line_len (length text)).1 is.long

    some_byte : (length text == 0) ≡ false
    some_byte = not_zero (length text) (let long = is.long in omega (arith, long))

    begun : (stop : Stop) → line_begun rules most stop count number text
        ≡ sending_line (fault_sent rules (long_fault rules number text) text) (returning (long_returned stop))
    begun stop = rw (some_byte, not_less most (count + 1) few, over) refl

    pub rest-long : passes rules.invalid ≡ false → regrouped_after rules most from to Unread count number text
        ≡ returning (Some (Err (long_fault rules number text)))
    rest-long aborts =
        after-rest Unread count number text is.no_end ∙ begun Unread
        ∙ ap (λ sent. sending_line sent (returning (long_returned Unread))) (aborts-fault rules (long_fault rules number text) text aborts)

    -- that is passed on: the reader stopped, or others follow
    module _ (fault : Fault) (same : long_fault rules number text ≡ fault) (does : passes rules.invalid ≡ true) where
      abbrev sent_long : List ℕ → Sent
      sent_long bytes = passed rules.rejects (fault_named rules.invalid fault) bytes

      passes_so : (bytes : List ℕ) (rest : Regrouped) → sending_line (fault_sent rules (long_fault rules number text) bytes) rest
          ≡ sending (sent_long bytes) rest
      passes_so bytes rest = ap (λ sent. sending_line sent rest) (ap (λ f. fault_sent rules f bytes) same
          ∙ passes-fault rules fault bytes does)

      line_and-long : (ended : List ℕ) (rest : Regrouped) → line_and count number ended text rest ≡ sending (sent_long ended) rest
      line_and-long ended rest = (rw (not_less most (count + 1) few, over) (passes_so ended rest))

      pub long-stopped : (stop : Stop) → regrouped_after rules most from to stop count number text
          ≡ sending (sent_long (stop_text e stop text)) (returning (last_returned count stop))
      long-stopped Ended = after-rest Ended count number text is.no_end ∙ (rw some_byte (line_and-long _ (last (count + 1))))
      long-stopped stop = after-rest stop count number text is.no_end ∙ begun stop ∙ passes_so text (returning (long_returned stop))

      pub long-next : (stop : Stop) (bytes : List ℕ) → 0 < number → is_open q number text ≡ false →
          regrouped_after rules most from to stop count number (text ++ e ∷ bytes)
          ≡ sending (sent_long (ended_by e text)) (regrouped_after rules most from to stop (count + 1)
          (line_after rules number text) bytes)
      long-next stop bytes some closed =
          after-line stop count number text bytes some (is.no_end, closed)
          ∙ line_and-long (ended_by e text) (regrouped_after rules most from to stop (count + 1) (line_after rules number text) bytes)

  -- a byte after the last record allowed
  pub after-many : (number : ℕ) (text : List ℕ) → 0 < length text → regrouped_after rules most from to Unread most number text
      ≡ returning (Some (Err TooMany))
  after-many number text some = by (split_at q e (record_start number) text) (split-joined q e (record_start number) text)
    where
      many : nat_lt most (most + 1) ≡ true
      many = (Decides-ltb most (most + 1)).1 (omega arith)

      by : (parts : List (List ℕ)) → join_with_byte e parts ≡ text → regrouped_parts rules most from to Unread most number parts
          ≡ returning (Some (Err TooMany))
      by [] whole = let none = ap length whole in absurd (omega arith)
      by (rest ∷ []) whole = rw (not_zero (length rest) (let same = ap length whole in omega arith), many) refl
      by (part ∷ next ∷ parts) whole = rw many refl
