-- What two certificates of num_format return.
use Rattle.std.proofs.Common.{◌≡◌, refl, sym, ◌∙◌, Decides}
use Rattle.std.specs.Prelude.{ℤ, pos, negsuc, ◌-◌, ◌^◌, Bool, ◌&&◌, ◌↔◌, IsTrue, IsUtf8}
use Rattle.std.specs.Ordering.{int_eq}
use Rattle.std.proofs.lemmas.Bool.Decides.{Decides-and, Decides-int_eq, Decides-like, same_from_decides}
use Rattle.std.proofs.lemmas.Slice.Eq.{bytes_eq-Decides}
use Rattle.num_format.specs.Alike.{Alike}
use Rattle.num_format.specs.Format.{FormatData}
use Rattle.num_format.specs.Kind.{I128, kind_of}
use Rattle.num_format.specs.Reading.{denoted}
use Rattle.num_format.specs.RoundTrips.{ReadsBack, RoundTrips}
use Rattle.num_format.specs.Text.{text_of}
use Rattle.num_format.specs.Laws.{AlikeLaw, RoundTripLaw}
use Rattle.num_format.specs.Readable.{is_readable}
use Rattle.num_format.proofs.ReadableLemmas.{readable-from_accepted, unreadable-from_refused, value-from_fits}
use Rattle.regroup_commands.specs.Output.{is_alike, is_read_back}

-- the test of a number decides whether it reads back
reads_back-Decides : (f : FormatData) (z : ℤ) → Decides (is_readable f (text_of f z) && int_eq (denoted f (text_of f z)) z)
    (ReadsBack (kind_of I128) f z)
reads_back-Decides f z =
    Decides-like _ (λ passed. record { accepted = λ cause. unreadable-from_refused f (text_of f z) cause passed.0; same = passed.1 })
    (λ back. (readable-from_accepted f (text_of f z) back.accepted, back.same))
    (Decides-and _ _ (λ yes. yes, λ yes. yes) (Decides-int_eq (denoted f (text_of f z)) z))

-- the two tests decide whether every number does, by the law on the two numbers
pub read_back-Decides : (f : FormatData) → RoundTripLaw → IsUtf8 f.minus_sign → IsUtf8 f.separator → Decides (is_read_back f) (RoundTrips f)
read_back-Decides f law sign separator =
    Decides-like _ (λ both. (law.two_values f sign separator).1 (both.0, both.1.0))
    (λ all. let two = (law.two_values f sign separator).0 all in (two.0, (two.1, refl)))
    (Decides-and _ _ (reads_back-Decides f (pos 1)) (Decides-and _ _ (reads_back-Decides f (negsuc (2 ^ 127 - 1))) (
      λ yes. yes,
      λ yes. yes,
    )))

-- the definition is what `reads_back` returns, under a format by which every number reads back
pub is_read_back_from_reads_back : (f : FormatData) (r : Bool) → RoundTrips f → IsTrue r ↔ RoundTrips f → r ≡ is_read_back f
is_read_back_from_reads_back f r all returned =
    let one = (reads_back-Decides f (pos 1)).1 (all I128 (pos 1) (value-from_fits (pos 1) refl)) in
    let lowest =
    (reads_back-Decides f (negsuc (2 ^ 127 - 1))).1 (all I128 (negsuc (2 ^ 127 - 1)) (value-from_fits (negsuc (2 ^ 127 - 1)) refl)) in
    returned.1 all ∙ sym ((Decides-and _ _ (λ yes. yes, λ yes. yes) (Decides-and _ _ (λ yes. yes, λ yes. yes) (λ yes. yes, λ yes. yes))).1
    (one, (lowest, refl)))

-- the four tests decide whether two formats print all numbers alike, by the law on the four numbers
pub alike-Decides : (f g : FormatData) → AlikeLaw → Decides (is_alike f g) (Alike f g)
alike-Decides f g law =
    Decides-like _ (λ same. (law f g).1 (same.0, same.1.0, same.1.1.0, same.1.1.1.0))
    (λ alike. let same = (law f g).0 alike in (same.0, (same.1, (same.2, (same.3, refl)))))
    (Decides-and _ _ (bytes_eq-Decides (text_of f (pos 1000)) (text_of g (pos 1000)))
    (Decides-and _ _ (bytes_eq-Decides (text_of f (pos 100000)) (text_of g (pos 100000)))
    (Decides-and _ _ (bytes_eq-Decides (text_of f (pos 1000000)) (text_of g (pos 1000000)))
    (Decides-and _ _ (bytes_eq-Decides (text_of f (negsuc 0)) (text_of g (negsuc 0))) (λ yes. yes, λ yes. yes)))))

-- the definition is what `prints_alike` returns
pub is_alike_from_prints_alike : (f g : FormatData) (r : Bool) → AlikeLaw → IsTrue r ↔ Alike f g → r ≡ is_alike f g
is_alike_from_prints_alike f g r law returned = same_from_decides r (is_alike f g) returned (alike-Decides f g law)
