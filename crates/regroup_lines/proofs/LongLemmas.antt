-- A record that is too long, piece by piece.
use Rattle.regroup_lines.proofs.Common.{◌≡◌, ℕ, ◌+◌, ◌<◌, ◌≤◌, true, false, List, [], ◌∷◌, ◌++◌, length, Bool, Option, Some, None, Result}
use Rattle.regroup_lines.proofs.Common.{Ok, Err, refl, sym, ap, subst, ◌∙◌, arith, append_assoc, ◌-◌, ◌^◌, is_some, IsAtEnd, Keeps}
use Rattle.regroup_lines.proofs.Common.{result_map_both, length-append, ended_by, Fault, Flush, Read, TooMany, HasNoEnd, IsLong, IsRecord}
use Rattle.regroup_lines.proofs.Common.{IsStop, Reads, stop_result, stop_text, IsHalt, Stop, quotes_in, Ended, Endless, Failed, Unflushed}
use Rattle.regroup_lines.proofs.Common.{Unread, after_byte, after_text, fold-append, is_inside, line_reached, next_line, PassesLong}
use Rattle.regroup_lines.proofs.Common.{CsvState, ReceivesBytes, SendsBytes, Writer, by_writer, failed_by, failed_writer, record_start}
use Rattle.regroup_lines.proofs.Common.{Rules}
use Rattle.regroup_lines.proofs.Common.{ended_once, ends_with, append-nil, ◌==◌, get_or, if◌then◌else◌}
use Rattle.std.proofs.lemmas.Bool.{lt-ltb}
use Rattle.std.proofs.lemmas.List.{get_or-append-add}
use Rattle.regroup_lines.proofs.InputLemmas.{Reads-more, Reads-none}
use Rattle.regroup_lines.proofs.RecordLemmas.{end-append, reached-append}
use Rattle.regroup_lines.proofs.WriterLemmas.{ReceivesBytes-after, received-kept}

-- so many pieces of a record were sent: no byte is held that was not
pub record SentLong (rules : Rules) (n0 n1 : ℕ) (within : CsvState) (is_ended : Bool) (begun : List ℕ) (r0 r1 : Option (List ℕ))
    (c0 c1 : Option (List ℕ) → Writer → Option (List ℕ)) (count : ℕ) (held : List ℕ) : Type 0 where
  pub text : List ℕ
  pub read : Reads begun text r0 r1
  pub is : IsLong rules n0 text
  pub sent : ReceivesBytes rules.rejects None c0 c1 text
  pub some : count ≤ length text
  pub none : held ≡ []
  pub after : within ≡ after_text (quotes_in rules.span) (record_start n0) text
  pub reached : n1 ≡ line_reached (quotes_in rules.span) rules.line_end n0 text
  pub ended : is_ended ≡ ends_with rules.line_end false text

-- whether a text ends with a byte, by whether its beginning does
ends-some : (e : ℕ) (before : Bool) (text : List ℕ) → 0 < length text → ends_with e before text ≡ (get_or text (length text - 1) 0 == e)
ends-some e before text some = rw (lt-ltb _ _ some) refl

ends-append : (e : ℕ) (before : Bool) (xs ys : List ℕ) → ends_with e (ends_with e before xs) ys ≡ ends_with e before (xs ++ ys)
ends-append e before xs [] = ap (ends_with e before) (sym (append-nil xs))
ends-append e before xs (y ∷ ys) =
    let last : length (xs ++ y ∷ ys) - 1 ≡ length xs + (length (y ∷ ys) - 1) = omega (arith, length-append xs (y ∷ ys)) in
    ends-some e (ends_with e before xs) (y ∷ ys) (omega arith)
    ∙ ap (λ b. b == e) (sym (ap (λ n. get_or (xs ++ y ∷ ys) n 0) last ∙ get_or-append-add xs (y ∷ ys) (length (y ∷ ys) - 1) 0))
    ∙ sym (ends-some e before (xs ++ y ∷ ys) (omega (arith, length-append xs (y ∷ ys))))

once-append : (e : ℕ) (xs ys : List ℕ) → xs ++ ended_once e (ends_with e false xs) ys ≡ ended_once e false (xs ++ ys)
once-append e xs ys = by (ends_with e (ends_with e false xs) ys) ∙ ap (λ (b : Bool). if b then xs ++ ys else ended_by e (xs ++ ys))
    (ends-append e false xs ys)
  where
    by : (ends : Bool) → xs ++ (if ends then ys else ended_by e ys) ≡ (if ends then xs ++ ys else ended_by e (xs ++ ys))
    by true = refl
    by false = sym (append_assoc xs ys (e ∷ []))

-- a failed write is no other result
unsent : {A : Type 0} (fault : Fault) → is_some (failed_writer fault) ≡ true → failed_writer fault ≡ None → A
unsent fault some none = let not : is_some (failed_writer fault) ≡ false = ap is_some none in absurd (cc)

module _ (rules : Rules) (n0 n2 : ℕ) (begun : List ℕ) (r0 : Option (List ℕ)) (c0 c2 : Option (List ℕ) → Writer → Option (List ℕ)) where
  -- the first write fails
  pub PassesLong-first : (left : List ℕ) (fault : Fault) → IsLong rules n0 begun
      → SendsBytes {T = Unit {0}} rules.rejects c0 c2 begun (Err fault) → PassesLong rules n0 n2 begun left r0 r0 c0 c2 (Err fault)
  PassesLong-first left fault long sends = PassesLong.to_stop Unread begun (Reads-none begun r0) long tt sends.1 (unsent fault sends.0)

  -- the next piece, where the writer was flushed
  module _ (n1 : ℕ) (within : CsvState) (is_ended : Bool) (holds : List ℕ) (r1 r2 s s1 x : Option (List ℕ)) (count : ℕ)
      (so_far : SentLong rules n0 n1 within is_ended begun r0 r1 c0 (λ told. by_writer s told x) count holds) (kept : Keeps s s1) where
    abbrev q : Option ℕ
    q = quotes_in rules.span

    abbrev e : ℕ
    e = rules.line_end

    abbrev c1 : Option (List ℕ) → Writer → Option (List ℕ)
    c1 told = by_writer s1 told x

    sent_more : (failed : Option Writer) (text : List ℕ) → ReceivesBytes rules.rejects failed c1 c2 text
        → ReceivesBytes rules.rejects failed c0 c2 (so_far.text ++ text)
    sent_more failed text sent =
        ReceivesBytes-after rules.rejects failed c0 c1 c2 so_far.text text
        (λ told. received-kept _ (c0 told) s s1 told x (so_far.sent told) kept) sent

    more : (text : List ℕ) → Reads holds text r1 r2 → Reads begun (so_far.text ++ text) r0 r2
    more text read =
        let given : read.given ≡ text = ap (λ l. l ++ read.given) (sym so_far.none) ∙ read.joined in
        subst (λ l. Reads begun (so_far.text ++ l) r0 r2) given (Reads-more begun so_far.text read.given r0 r1 r2 so_far.read read.consumed)

    module _ (text : List ℕ) where
      abbrev whole : List ℕ
      whole = so_far.text ++ text

      after_more : after_text q within text ≡ after_text q (record_start n0) whole
      after_more = ap (λ w. after_text q w text) so_far.after ∙ sym (fold-append (after_byte q) (record_start n0) so_far.text text)

      reached_more : line_reached q e n1 text ≡ line_reached q e n0 whole
      reached_more = ap (λ n. line_reached q e n text) so_far.reached ∙ reached-append q e n0 so_far.text text

      longer : HasNoEnd q e within text → IsLong rules n0 whole
      longer none = record {
        no_end = end-append q e (record_start n0) so_far.text text so_far.is.no_end (subst (λ w. HasNoEnd q e w text) so_far.after none);
        long = let long = so_far.is.long in omega (arith, long, length-append so_far.text text);
      }

      pub SentLong-next : Reads holds text r1 r2 → HasNoEnd q e within text → (left : List ℕ) (within2 : CsvState) (is_ended2 : Bool)
          → 0 < length text → ReceivesBytes rules.rejects None c1 c2 text → left ≡ [] → within2 ≡ after_text q within text →
          n2 ≡ line_reached q e n1 text → is_ended2 ≡ ends_with e is_ended text
          → SentLong rules n0 n2 within2 is_ended2 begun r0 r2 c0 c2 (count + 1) left
      SentLong-next read none left within2 is_ended2 some sent empty is reached ends = record {
        text = whole;
        read = more text read;
        is = longer none;
        sent = sent_more None text sent;
        some = let before = so_far.some in omega (arith, before, some, length-append so_far.text text);
        none = empty;
        after = is ∙ after_more;
        reached = reached ∙ reached_more;
        ended = ends ∙ ap (λ b. ends_with e b text) so_far.ended ∙ ends-append e false so_far.text text;
      }

      once : so_far.text ++ ended_once e is_ended text ≡ ended_once e false whole
      once = ap (λ b. so_far.text ++ ended_once e b text) so_far.ended ∙ once-append e so_far.text text

      -- where the reader stopped in it
      module _ (read : Reads holds text r1 r2) (none : HasNoEnd q e within text) (left : List ℕ) where
        to-stop : (stop : Stop) (sent_last : List ℕ) → so_far.text ++ sent_last ≡ stop_text e stop whole
            → IsStop rules.flushes stop whole r2 → (result : Result Bool Fault)
            → ReceivesBytes rules.rejects (failed_by result) c1 c2 sent_last → (failed_by result ≡ None → stop_result stop ≡ Some result) →
            PassesLong rules n0 n2 begun left r0 r2 c0 c2 result
        to-stop stop sent_last same known result sent returned =
            PassesLong.to_stop stop whole (more text read) (longer none) known
            (subst (ReceivesBytes rules.rejects (failed_by result) c0 c2) same (sent_more (failed_by result) sent_last sent)) returned

        pub PassesLong-unsent : (fault : Fault) → SendsBytes {T = Unit {0}} rules.rejects c1 c2 text (Err fault)
            → PassesLong rules n0 n2 begun left r0 r2 c0 c2 (Err fault)
        PassesLong-unsent fault sends = to-stop Unread text refl tt (Err fault) sends.1 (unsent fault sends.0)

        pub PassesLong-halted : (fault : Fault) → IsHalt rules.flushes fault → ReceivesBytes rules.rejects None c1 c2 text
            → PassesLong rules n0 n2 begun left r0 r2 c0 c2 (Err fault)
        PassesLong-halted Read is sent = to-stop Failed text refl tt (Err Read) sent (λ none. refl)
        PassesLong-halted Flush is sent = to-stop Unflushed text refl is (Err Flush) sent (λ none. refl)
        PassesLong-halted fault is sent = absurd is

        pub PassesLong-rest : IsAtEnd r2 → (sent : Result (Unit {0}) Fault)
            → SendsBytes rules.rejects c1 c2 (ended_once e is_ended text) sent
            → PassesLong rules n0 n2 begun left r0 r2 c0 c2 (result_map_both (λ done. true) (λ fault. fault) sent)
        PassesLong-rest end (Ok done) sends = to-stop Ended _ once end (Ok true) sends (λ none. refl)
        PassesLong-rest end (Err fault) sends = to-stop Ended _ once end (Err fault) sends.1 (unsent fault sends.0)

      -- the byte that ends it
      module _ (left : List ℕ) (read : Reads holds (text ++ e ∷ left) r1 r2) (is : IsRecord q e within text) where
        to-end : (result : Result Bool Fault) → ReceivesBytes rules.rejects (failed_by result) c1 c2 (ended_by e text)
            → (failed_by result ≡ None → (result ≡ Ok false) × (n2 ≡ next_line (line_reached q e n1 text))) →
            PassesLong rules n0 n2 begun left r0 r2 c0 c2 result
        to-end result sent returned =
            PassesLong.to_end whole (subst (λ l. Reads begun l r0 r2) (sym (append_assoc so_far.text text (e ∷ left)))
            (more (text ++ e ∷ left) read)) (longer is.0) (ap is_inside (sym after_more) ∙ is.1)
            (subst (ReceivesBytes rules.rejects (failed_by result) c0 c2) (sym (append_assoc so_far.text text (e ∷ [])))
            (sent_more (failed_by result) (ended_by e text) sent))
            (λ none. let so = returned none in (so.0, so.1 ∙ ap next_line reached_more))

        pub PassesLong-line : (sent : Result (Unit {0}) Fault) → SendsBytes rules.rejects c1 c2 (ended_by e text) sent
            → ((done : Unit {0}) → sent ≡ Ok done → n2 ≡ next_line (line_reached q e n1 text)) →
            PassesLong rules n0 n2 begun left r0 r2 c0 c2 (result_map_both (λ done. false) (λ fault. fault) sent)
        PassesLong-line (Ok done) sends number = to-end (Ok false) sends (λ none. (refl, number done refl))
        PassesLong-line (Err fault) sends number = to-end (Err fault) sends.1 (unsent fault sends.0)

  -- where enough was read
  pub PassesLong-endless : (n1 : ℕ) (within : CsvState) (is_ended : Bool) (holds : List ℕ) (r1 : Option (List ℕ)) (count : ℕ)
      (left : List ℕ)
      → SentLong rules n0 n1 within is_ended begun r0 r1 c0 c2 count holds → 2 ^ 64 - 1 ≤ count →
      PassesLong rules n0 n2 begun left r0 r1 c0 c2 (Err TooMany)
  PassesLong-endless n1 within is_ended holds r1 count left so_far enough =
      PassesLong.to_stop Endless so_far.text so_far.read so_far.is (let some = so_far.some
      in omega (arith, some, enough)) so_far.sent (λ none. refl)
