use Rattle.std.proofs.Common.{◌≡◌, ℤ, pos, refl, rules, Bool, true, false, if◌then◌else◌}
use Rattle.std.specs.Prelude.{IsTrue, ◌↔◌}
use Rattle.num_format.specs.RoundTrips.{RoundTrips}
use Rattle.num_format_c.specs.Calls.{Tells}
use Rattle.num_format_c.specs.FormatRef.{HasLatin, format_of}
use Rattle.num_format_c.proofs.calls.reads_back.Goals as goal

-- whether a property holds, as a number
told : (given holds : Type 0) (b : Bool) (result : ℤ) → given → (IsTrue b ↔ holds) → result ≡ (if b then pos 1 else pos 0)
    → Tells given holds result
told given holds true result g both same = record {
  bad_format = λ none. absurd (none g);
  yes = λ _ _. same;
  no = λ _ none. absurd (none (both.0 refl));
}
told given holds false result g both same = record {
  bad_format = λ none. absurd (none g);
  yes = λ _ h. (let e = both.1 h in cc);
  no = λ _ _. same;
}

pub returns : goal.returns
returns c =
    told (HasLatin c.args.format.now) (RoundTrips (format_of c.args.format.now)) c.reads_back.result _ c.in_ok-format.ensures.has_latin
    (rw c.in_ok-format.ensures.format at c.reads_back.ensures) (search rules)
