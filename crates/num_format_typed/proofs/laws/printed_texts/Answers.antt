use Rattle.num_format_parsing.specs.Strict.{ParsesStrictly}
use Rattle.num_format_typed.specs.Typed.{IsTypable}
use Rattle.num_format_typed.proofs.CanonicalLemmas.{strict-printed}
use Rattle.num_format_typed.proofs.LawLemmas.{printed-first, strict-whole}
use Rattle.num_format_typed.proofs.laws.printed_texts.Goals as goal

pub returns : goal.returns
returns g c = λ f t x result symbols typable accepted typed.
    let k = g.N.Sealed.kind in
    let value = g.N.Sealed.value in
    let strict = strict-whole k value f in
    let first = printed-first value (ParsesStrictly k value) IsTypable f strict t result typable
    (strict-printed k value f t x _ c.is_wide.ensures.within typable symbols accepted) (λ e. strict.never t x e accepted) typed in
    (first.0, first.1, strict.same t first.0 x first.2 accepted)
