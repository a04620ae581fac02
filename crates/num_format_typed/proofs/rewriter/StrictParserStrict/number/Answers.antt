use Rattle.std.proofs.Common.{ℤ, ℕ, Bool, ◌^◌, List, Option, Some, None, Ok, MatchOption}
use Rattle.std.specs.Prelude.{IfSome, if◌then◌else◌}
use Rattle.num_format_text.specs.Format.{FormatData}
use Rattle.num_format_int.specs.Kind.{IsWithin, Kind}
use Rattle.num_format_parsing.specs.Strict.{ParsesStrictly}
use Rattle.num_format_typed.specs.Typed.{HasSymbols, IsPrinted, IsTypable}
use Rattle.num_format_typed.proofs.CanonicalLemmas.{strict-printed}
use Rattle.num_format_typed.proofs.rewriter.StrictParserStrict.number.Goals as goal

given : {X : Type 0} (R : Type 0) (k : Kind) (value : X → ℤ) (f : FormatData) (t : List ℕ) (wide : Bool)
    → IsWithin (if wide then 2 ^ 128 else 2 ^ 64) k → IsTypable f → HasSymbols f → (result : Option X)
    → MatchOption result R (λ x. ParsesStrictly k value f t (Ok x)) → IfSome result (λ x. IsPrinted f t × ParsesStrictly k value f t (Ok x))
given R k value f t wide within typable symbols None parsed = tt
given R k value f t wide within typable symbols (Some x) parsed = (strict-printed k value f t x wide within typable symbols parsed, parsed)

pub returns : goal.returns
returns g c = given _ g.N.Sealed.kind g.N.Sealed.value c.args.self.now c.args.bytes.now c.is_wide.result c.is_wide.ensures.within
    c.requires.typable c.requires.symbols c.number.result c.number.ensures
