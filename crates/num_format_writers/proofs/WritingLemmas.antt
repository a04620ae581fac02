-- How much of a text writers received, write after write.
use Rattle.std.proofs.Common.{◌≡◌, ℕ, ◌-◌, ◌^◌, ◌<◌, List, [], ◌++◌, length, take, drop, ap, refl, sym, ◌∙◌, append_assoc, length-append}
use Rattle.std.proofs.Common.{take-append-drop, arith}
use Rattle.std.specs.Prelude.{ℤ, Option, None, Result, Ok, Err, IsErr, OnErr}
use Rattle.std.specs.Io.KnownBytes.{Appends}
use Rattle.std.proofs.KnownBytes.{Appends-nil, Appends-trans}
use Rattle.std.proofs.lemmas.List.{take_rest}
use Rattle.std.specs.IoError.{error_kind}
use Rattle.std.specs.declared.io.Error.{Error}
use Rattle.std.specs.declared.io.ErrorKind.TheVariants.{WriteZero}
use Rattle.num_format_text.specs.Format.{FormatData}
use Rattle.num_format_int.specs.Text.{text_of}
use Rattle.num_format_writers.specs.Writers.{WritesInSlice}
use Rattle.num_format_writers.specs.Writing.{HasReceivedUpTo, StopsWithin, Writes}
use Rattle.num_format_int.proofs.TextLemmas.{text_of-nonempty}

-- a writer that stops within the first of two texts stops within both together
pub StopsWithin_prefix : (a b : Option (List ℕ)) (prefix suffix : List ℕ) → StopsWithin a b prefix → StopsWithin a b (prefix ++ suffix)
StopsWithin_prefix a b prefix suffix stops = record {
  rest = stops.rest ++ suffix;
  unfinished = omega (arith, length-append stops.rest suffix, stops.unfinished);
  received = record {
    received = stops.received.received;
    split = sym (append_assoc stops.received.received stops.rest suffix) ∙ ap (λ l. l ++ suffix) stops.received.split;
    appended = stops.received.appended;
  };
}

-- so does one that received all of the first and stops within the second
pub StopsWithin_suffix : (a b c : Option (List ℕ)) (prefix suffix : List ℕ) → Appends a b prefix → StopsWithin b c suffix
    → StopsWithin a c (prefix ++ suffix)
StopsWithin_suffix a b c prefix suffix whole stops = record {
  rest = stops.rest;
  unfinished = stops.unfinished;
  received = record {
    received = prefix ++ stops.received.received;
    split = append_assoc prefix stops.received.received stops.rest ∙ ap (λ l. prefix ++ l) stops.received.split;
    appended = Appends-trans a b c prefix stops.received.received whole stops.received.appended;
  };
}

-- a write appends the first n bytes of the rest
pub HasReceivedUpTo_more : (a b c : Option (List ℕ)) (whole rest : List ℕ) (n : ℕ) → HasReceivedUpTo a b whole rest
    → Appends b c (take n rest) →
    HasReceivedUpTo a c whole (take (length rest - n) (drop n rest))
HasReceivedUpTo_more a b c whole rest n so_far more = record {
  received = so_far.received ++ take n rest;
  split = append_assoc so_far.received (take n rest) (take (length rest - n) (drop n rest))
      ∙ ap (λ l. so_far.received ++ (take n rest ++ l)) (take_rest rest n)
      ∙ ap (λ l. so_far.received ++ l) (take-append-drop n rest) ∙ so_far.split;
  appended = Appends-trans a b c so_far.received (take n rest) so_far.appended more;
}

-- a writer that nothing was written to
pub HasReceivedUpTo-none : (a : Option (List ℕ)) (whole : List ℕ) → HasReceivedUpTo a a whole whole
HasReceivedUpTo-none a whole = record { received = []; split = refl; appended = Appends-nil a }

-- it stops within any text that is not empty
pub StopsWithin-none : (a : Option (List ℕ)) (whole : List ℕ) → 0 < length whole → StopsWithin a a whole
StopsWithin-none a whole nonempty = record { rest = whole; unfinished = nonempty; received = HasReceivedUpTo-none a whole }

-- a call that returns an error, and wrote to a writer whose bytes are not known
pub Writes_failed : {E : Type 0} (e : E) (f : FormatData) (z : ℤ) → Writes {E = E} (Err e) None None (text_of f z)
Writes_failed e f z = record { whole = tt; count = tt; prefix = StopsWithin-none None (text_of f z) (text_of-nonempty f z) }

-- the same of a result that is an error
pub Writes_err : {E : Type 0} (r : Result ℕ E) (f : FormatData) (z : ℤ) → IsErr r → Writes r None None (text_of f z)
Writes_err (Ok n) f z fails = absurd (cc)
Writes_err (Err e) f z fails = Writes_failed e f z

-- a call that fails since the cursor is past the end of its slice
pub WritesInSlice_past_end : (old : List ℕ) (from : ℕ) (f : FormatData) (z : ℤ) (e : Error) → length old < from → from < 2 ^ 64
    → error_kind e ≡ WriteZero →
    WritesInSlice old from (text_of f z) (Err e) old from
WritesInSlice_past_end old from f z e past small kind =
    let none : length old - from ≡ 0 = omega arith in
    let longer = text_of-nonempty f z in
    record {
      moves = record {
        space = record { fits = ((λ ok. absurd (cc)), (λ fits. absurd (omega (arith, fits, none, longer)))); kind = kind };
        position = rw none (omega arith);
      };
      written = λ within. absurd (omega arith);
      past_end = λ _. (refl, refl);
    }

-- what holds anyway holds on an error
pub OnErr-always : {T E : Type 0} (r : Result T E) (P : Type 0) → P → OnErr r P
OnErr-always (Ok x) P holds = tt
OnErr-always (Err e) P holds = holds
