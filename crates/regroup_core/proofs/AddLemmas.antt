-- What calls append, one after the other.
use Rattle.regroup_core.proofs.Common.{◌≡◌, ℕ, ◌++◌, List, length, take, Result, Ok, Err, sym, ap, subst, ◌∙◌, arith, append_assoc}
use Rattle.regroup_core.proofs.Common.{length-append, take-append-le, take_all}
use Rattle.std.proofs.lemmas.List.{take-take}
use Rattle.regroup_core.specs.Adding.{Adds, AppendsLine, Extends}
use Rattle.regroup_core.specs.Lines.{after}
use Rattle.regroup_core.specs.declared.line.Cause.{Cause}
use Rattle.regroup_core.specs.declared.line.Cause.TheVariants.{Few, Memory, Quote, Refused}

pub extends-none : (a : List ℕ) → Extends a a
extends-none a = take_all (length a) a (omega arith)

pub extends-added : (a b more : List ℕ) → b ≡ a ++ more → Extends a b
extends-added a b more is = subst (Extends a) (sym is) (take-append-le (length a) a more (omega arith) ∙ extends-none a)

pub extends-later : (a b c more : List ℕ) → b ≡ a ++ more → Extends b c → Extends a c
extends-later a b c more is later =
    sym (take-take (length a) (length b) c (omega (arith, ap length is, length-append a more)))
    ∙ ap (take (length a)) later ∙ extends-added a b more is

-- a cause is passed on
pub adds-cause : {E : Type 0} (text whole : Result (List ℕ) (Cause E)) (old mid new more : List ℕ) → mid ≡ old ++ more
    → ((cause : Cause E) → text ≡ Err cause → whole ≡ Err cause) → (cause : Cause E) → Adds text mid new (Err cause)
    → Adds whole old new (Err cause)
adds-cause text whole old mid new more is same Memory adds = extends-later old mid new more is adds
adds-cause text whole old mid new more is same (Refused number error) adds =
    (same (Refused number error) adds.0, extends-later old mid new more is adds.1)
adds-cause text whole old mid new more is same (Quote number) adds = (same (Quote number) adds.0, extends-later old mid new more is adds.1)
adds-cause text whole old mid new more is same (Few found wanted) adds =
    (same (Few found wanted) adds.0, extends-later old mid new more is adds.1)

-- a text after others, which are appended
pub adds-after : {E : Type 0} (text : Result (List ℕ) (Cause E)) (old mid new front : List ℕ) (result : Result (Unit {0}) (Cause E))
    → mid ≡ old ++ front → Adds text mid new result → Adds (after front text) old new result
adds-after (Ok bytes) old mid new front (Ok added) is adds = adds ∙ ap (λ l. l ++ bytes) is ∙ append_assoc old front bytes
adds-after (Err cause) old mid new front (Ok added) is adds = absurd adds
adds-after text old mid new front (Err cause) is adds =
    adds-cause text (after front text) old mid new front is (λ c same. ap (after front) same) cause adds

-- what is appended is taken off
pub taken-off : {E : Type 0} (text : Result (List ℕ) (Cause E)) (old mid new : List ℕ) (cause : Cause E) → Adds text old mid (Err cause)
    → new ≡ take (length old) mid → AppendsLine text old new (Err cause)
taken-off text old mid new Memory adds is = is ∙ adds
taken-off text old mid new (Refused number error) adds is = (adds.0, is ∙ adds.1)
taken-off text old mid new (Quote number) adds is = (adds.0, is ∙ adds.1)
taken-off text old mid new (Few found wanted) adds is = (adds.0, is ∙ adds.1)
