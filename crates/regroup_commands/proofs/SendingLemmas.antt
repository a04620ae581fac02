-- What writers received, text after text.
use Rattle.std.proofs.Common.{◌≡◌, ℕ, ◌+◌, ◌<◌, List, [], ◌++◌, length, map, drop, get_or, refl, ◌∙◌, add-one, append_assoc, drop-cons}
use Rattle.std.proofs.Common.{length-append, arith}
use Rattle.std.specs.Borrow.{Bor}
use Rattle.std.specs.Prelude.{Option, None, Result, Ok, Err}
use Rattle.std.specs.Result.{result_and}
use Rattle.std.proofs.KnownBytes.{Appends-nil, Appends-trans}
use Rattle.std.specs.Io.KnownBytes.{Appends}
use Rattle.num_format.specs.Refusal.{Refusal, message_of}
use Rattle.num_format.specs.Writing.{HasReceivedUpTo, Sends, StopsWithin}
use Rattle.num_format.proofs.WritingLemmas.{HasReceivedUpTo-none, StopsWithin_prefix, StopsWithin_suffix}
use Rattle.regroup_commands.specs.Output.{line, lines, output_of_result, output_or_usage, usage_output}
use Rattle.regroup_commands.specs.Request.{Request}
use Rattle.regroup_commands.specs.Sending.{SendsLines, SendsOutput}

-- a call that sends the lines of a result, and then returns 0, sends the result's output
pub SendsOutput_lines : {E : Type 0} (r : Result ℕ E) (result : Result (List ℕ) Refusal) (a b c : Option (List ℕ))
    (sent : Result (Unit {0}) E) →
    SendsLines sent a b result → r ≡ result_and sent (Ok 0) → SendsOutput r (output_of_result result) a b c c
SendsOutput_lines r result a b c (Ok done) lines returned =
    rw (lines.is, returned) (record {
      status = refl;
      sent = record { stdout = lines.sends.whole; stderr = Appends-nil c };
      failed = tt;
    })
SendsOutput_lines r result a b c (Err e) lines returned =
    let stops = lines.sends.prefix in
    rw (lines.is, returned) (record {
      status = tt;
      sent = tt;
      failed = record {
        stdout_rest = stops.rest;
        stderr_rest = [];
        stdout = stops.received;
        stderr = HasReceivedUpTo-none c [];
        unfinished = omega (arith, length-append stops.rest [], stops.unfinished);
      };
    })

-- a call that sends a text to standard error, and then returns the status, sends the output of the two
SendsOutput_stderr : {E : Type 0} (r : Result ℕ E) (a c d : Option (List ℕ)) (sent : Result (Unit {0}) E) (status : ℕ) (text : List ℕ) →
    Sends sent c d text → r ≡ result_and sent (Ok status) → SendsOutput r (record { status = status; stdout = []; stderr = text }) a a c d
SendsOutput_stderr r a c d (Ok done) status text sends returned =
    rw returned (record {
      status = refl;
      sent = record { stdout = Appends-nil a; stderr = sends.whole };
      failed = tt;
    })
SendsOutput_stderr r a c d (Err e) status text sends returned =
    let stops = sends.prefix in
    rw returned (record {
      status = tt;
      sent = tt;
      failed = record {
        stdout_rest = [];
        stderr_rest = stops.rest;
        stdout = HasReceivedUpTo-none a [];
        stderr = stops.received;
        unfinished = stops.unfinished;
      };
    })

-- so a call that sends the message of an error, and then returns 1, sends the error's output
pub SendsOutput_message : {E : Type 0} (r : Result ℕ E) (result : Result (List ℕ) Refusal) (a b c d : Option (List ℕ))
    (sent : Result (Unit {0}) E) (error : Refusal) →
    result ≡ Err error → b ≡ a → Sends sent c d (line (message_of error)) → r ≡ result_and sent (Ok 1) →
    SendsOutput r (output_of_result result) a b c d
SendsOutput_message r result a b c d sent error is unsent sends returned =
    rw (is, unsent) (SendsOutput_stderr r a c d sent 1 (line (message_of error)) sends returned)

-- and one that sends the usage, and then returns 2, sends the output for words that are no request
pub SendsOutput_usage : {E : Type 0} (r : Result ℕ E) (request : Option Request) (a b c d : Option (List ℕ)) (sent : Result (Unit {0}) E) →
    None ≡ request → b ≡ a → Sends sent c d usage_output.stderr → r ≡ result_and sent (Ok 2) →
    SendsOutput r (output_or_usage request) a b c d
SendsOutput_usage r request a b c d sent none unsent sends returned =
    rw (← none, unsent) (SendsOutput_stderr r a c d sent 2 usage_output.stderr sends returned)

-- the lines from a place on: the line there, and those after it
lines-drop : (texts : List (Bor (List ℕ))) (k : ℕ) (d : Bor (List ℕ)) → k < length texts →
    lines (map (λ text. text.now) (drop k texts)) ≡ line (get_or texts k d).now ++ lines (map (λ text. text.now) (drop (k + 1) texts))
lines-drop texts k d within = rw (add-one, drop-cons texts k d)

-- a writer that receives the next line
pub HasReceivedUpTo_line : (a b c : Option (List ℕ)) (whole : List ℕ) (texts : List (Bor (List ℕ))) (k : ℕ) (d : Bor (List ℕ))
    → k < length texts →
    HasReceivedUpTo a b whole (lines (map (λ text. text.now) (drop k texts))) → Appends b c (line (get_or texts k d).now) →
    HasReceivedUpTo a c whole (lines (map (λ text. text.now) (drop (k + 1) texts)))
HasReceivedUpTo_line a b c whole texts k d within so_far more =
    let next = rw (lines-drop texts k d within) at so_far in
    record {
      received = next.received ++ line (get_or texts k d).now;
      split = append_assoc next.received (line (get_or texts k d).now) (lines (map (λ text. text.now) (drop (k + 1) texts))) ∙ next.split;
      appended = Appends-trans a b c next.received (line (get_or texts k d).now) next.appended more;
    }

-- a writer that stops within the next line
pub StopsWithin_line : (a b c : Option (List ℕ)) (whole : List ℕ) (texts : List (Bor (List ℕ))) (k : ℕ) (d : Bor (List ℕ))
    → k < length texts →
    HasReceivedUpTo a b whole (lines (map (λ text. text.now) (drop k texts))) → StopsWithin b c (line (get_or texts k d).now) →
    StopsWithin a c whole
StopsWithin_line a b c whole texts k d within so_far stops =
    let next = rw (lines-drop texts k d within) at so_far in
    rw (← next.split) (StopsWithin_suffix a b c next.received _ next.appended
    (StopsWithin_prefix b c (line (get_or texts k d).now) _ stops))
