-- What writers received of lines that are sent one after the other.
use Rattle.regroup_lines.proofs.Common.{Appends, Appends-kept, Appends-nil, Appends-trans, Bool, Fault, NotationData, HasReceivedUpTo-none}
use Rattle.regroup_lines.proofs.Common.{Keeps, List, Messages, None, Option, Output, Reading, Receives, ReceivesBytes, ReceivesEach}
use Rattle.regroup_lines.proofs.Common.{ReceivesPrefix, Regrouped, Rejects, Sent, Some, StopsWithin, StopsWithin_prefix, StopsWithin_suffix}
use Rattle.regroup_lines.proofs.Common.{Writer, [], ap, append-nil, append_assoc, are_any, by_writer, bytes_to, false, fault_message}
use Rattle.regroup_lines.proofs.Common.{flat_map-append, is_some, joined, messages, only_written, passed, refl, sending, subst, sym}
use Rattle.regroup_lines.proofs.Common.{text_to, true, ℕ, ◌++◌, ◌||◌, ◌∙◌, ◌∷◌, ◌≡◌}

pub joined-assoc : (a b c : Sent) → joined a (joined b c) ≡ joined (joined a b) c
joined-assoc a b c =
    let make : List ℕ → List Fault → List ℕ → Sent = λ w n r. record { written = w; named = n; rejected = r } in
    ap (λ w. make w (a.named ++ (b.named ++ c.named)) (a.rejected ++ (b.rejected ++ c.rejected)))
    (sym (append_assoc a.written b.written c.written))
    ∙ ap (λ n. make ((a.written ++ b.written) ++ c.written) n (a.rejected ++ (b.rejected ++ c.rejected)))
    (sym (append_assoc a.named b.named c.named))
    ∙ ap (make ((a.written ++ b.written) ++ c.written) ((a.named ++ b.named) ++ c.named))
    (sym (append_assoc a.rejected b.rejected c.rejected))

pub sending-sending : (a b : Sent) (rest : Regrouped) → sending a (sending b rest) ≡ sending (joined a b) rest
sending-sending a b rest = ap (λ sent. record { sent = sent; returned = rest.returned }) (joined-assoc a b rest.sent)

pub are_any-append : (f g : List Fault) → are_any (f ++ g) ≡ (are_any f || are_any g)
are_any-append [] g = refl
are_any-append (fault ∷ f) g = refl

-- a writer that received all of a text, and a part of the next one
pub Receives-after : (failed : Option Writer) (w : Writer) (a b c : Option (List ℕ)) (x y : List ℕ) → Appends a b x
    → Receives failed w b c y → Receives failed w a c (x ++ y)
Receives-after None w a b c x y first second = Appends-trans a b c x y first second
Receives-after (Some Output) Output a b c x y first second = StopsWithin_suffix a b c x y first second
Receives-after (Some Messages) Messages a b c x y first second = StopsWithin_suffix a b c x y first second
Receives-after (Some Rejects) Rejects a b c x y first second = StopsWithin_suffix a b c x y first second
Receives-after (Some failed) w a b c x y first second = record {
  rest = second.rest;
  received = record {
    received = x ++ second.received.received;
    split = append_assoc x second.received.received second.rest ∙ ap (λ l. x ++ l) second.received.split;
    appended = Appends-trans a b c x second.received.received first second.received.appended;
  };
}

-- where a write fails, no writer received more
pub Receives-more : (failed : Option Writer) (w : Writer) (a b : Option (List ℕ)) (x y : List ℕ) → is_some failed ≡ true
    → Receives failed w a b x → Receives failed w a b (x ++ y)
Receives-more None w a b x y fails first = absurd (cc)
Receives-more (Some Output) Output a b x y fails first = StopsWithin_prefix a b x y first
Receives-more (Some Messages) Messages a b x y fails first = StopsWithin_prefix a b x y first
Receives-more (Some Rejects) Rejects a b x y fails first = StopsWithin_prefix a b x y first
Receives-more (Some failed) w a b x y fails first = record {
  rest = first.rest ++ y;
  received = record {
    received = first.received.received;
    split = sym (append_assoc first.received.received first.rest y) ∙ ap (λ l. l ++ y) first.received.split;
    appended = first.received.appended;
  };
}

-- a prefix that is nothing
pub prefix-none : (a : Option (List ℕ)) (x : List ℕ) → ReceivesPrefix a a x
prefix-none a x = record { rest = x; received = HasReceivedUpTo-none a x }

-- what each of them received, one by one
pub each : (failed : Option Writer) (old new : Writer → Option (List ℕ)) (text : Writer → List ℕ)
    → Receives failed Output (old Output) (new Output) (text Output) → Receives failed Messages (old Messages) (new Messages)
    (text Messages) →
    Receives failed Rejects (old Rejects) (new Rejects) (text Rejects) → ReceivesEach failed old new text
each failed old new text output messages rejects Output = output
each failed old new text output messages rejects Messages = messages
each failed old new text output messages rejects Rejects = rejects

-- a flush of the output
pub received-kept : (text : Writer → List ℕ) (c : Writer → Option (List ℕ)) (s s2 t x : Option (List ℕ))
    → ReceivesEach None c (by_writer s t x) text → Keeps s s2 → ReceivesEach None c (by_writer s2 t x) text
received-kept text c s s2 t x received kept = each None c (by_writer s2 t x) text
    (Appends-kept (c Output) s s2 (text Output) (received Output) kept) (received Messages) (received Rejects)

-- bytes at fault, and more of them
bytes_to-append : (rejects : Bool) (xs ys : List ℕ) (w : Writer) → bytes_to rejects (xs ++ ys) w
    ≡ bytes_to rejects xs w ++ bytes_to rejects ys w
bytes_to-append true xs ys Output = refl
bytes_to-append false xs ys Output = refl
bytes_to-append true xs ys writer = refl
bytes_to-append false xs ys writer = refl

pub ReceivesBytes-after : (rejects : Bool) (failed : Option Writer) (a b c : Option (List ℕ) → Writer → Option (List ℕ)) (xs ys : List ℕ)
    → ReceivesBytes rejects None a b xs → ReceivesBytes rejects failed b c ys →
    ReceivesBytes rejects failed a c (xs ++ ys)
ReceivesBytes-after rejects failed a b c xs ys first second = λ told w.
    subst (Receives failed w (a told w) (c told w)) (sym (bytes_to-append rejects xs ys w))
    (Receives-after failed w (a told w) (b told w) (c told w) _ _ (first told w) (second told w))

module _ (name : List ℕ) (reading : Reading) (from : NotationData) where
  -- what is sent of lines, and then of others
  pub text_to-joined : (a b : Sent) (w : Writer) → text_to name reading from (joined a b) w
      ≡ text_to name reading from a w ++ text_to name reading from b w
  text_to-joined a b Output = refl
  text_to-joined a b Messages = flat_map-append (fault_message name reading from) a.named b.named
  text_to-joined a b Rejects = refl

  -- and then of no others
  pub received-last : (a : Sent) (w : Writer) → text_to name reading from (joined a (only_written [])) w ≡ text_to name reading from a w
  received-last a Output = append-nil a.written
  received-last a Messages = ap (messages name reading from) (append-nil a.named)
  received-last a Rejects = append-nil a.rejected

  pub receives-nothing : (c : Writer → Option (List ℕ)) → ReceivesEach None c c (text_to name reading from (only_written []))
  receives-nothing c = each None c c (text_to name reading from (only_written [])) (Appends-nil (c Output)) (Appends-nil (c Messages))
      (Appends-nil (c Rejects))

  -- a message is not sent, and nothing after it
  pub unnamed-stopped : (s t t2 x : Option (List ℕ)) (sent : Sent) → StopsWithin t t2 (messages name reading from sent.named) →
      ReceivesEach (Some Messages) (by_writer s t x) (by_writer s t2 x) (text_to name reading from sent)
  unnamed-stopped s t t2 x sent stops = each (Some Messages) (by_writer s t x) (by_writer s t2 x) (text_to name reading from sent)
      (prefix-none s sent.written) stops (prefix-none x sent.rejected)

  -- a message is sent, and then bytes at fault
  pub passed-received : (rejects : Bool) (failed : Option Writer) (s t t2 x : Option (List ℕ)) (c : Writer
      → Option (List ℕ)) (faults : List Fault) (bytes : List ℕ) → Appends t t2 (messages name reading from faults) →
      ReceivesEach failed (by_writer s t2 x) c (bytes_to rejects bytes)
      → ReceivesEach failed (by_writer s t x) c (text_to name reading from (passed rejects faults bytes))
  passed-received rejects failed s t t2 x c faults bytes told sent =
      each failed (by_writer s t x) c (text_to name reading from (passed rejects faults bytes)) (sent Output)
      (subst (Receives failed Messages t (c Messages)) (append-nil (messages name reading from faults))
      (Receives-after failed Messages t t2 (c Messages) _ [] told (sent Messages))) (sent Rejects)
