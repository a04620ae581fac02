use Rattle.std.proofs.Common.{◌∙◌, sym}
use Rattle.num_format_int.specs.Kind.{signed_number}
use Rattle.num_format_parsing.proofs.CauseLemmas.{sign-kind}
use Rattle.num_format_parsing.proofs.CanonicalLemmas.{body-told}
use Rattle.num_format_parsing.proofs.strict.number_of.Goals as goal

pub returns-in-None : goal.returns-in-None
returns-in-None g c = λ f t sign is_canonical.
    let k = g.N.Sealed.kind in
    let z = signed_number c.args.sign.is_negative c.args.magnitude in
    let told = body-told f t c.args.sign.is_negative c.args.sign.len z sign is_canonical in (
      sign.symbols.unambiguous,
      record {
        number = z;
        canonical = is_canonical;
        wrong = λ value. c.in-None.ensures.value (record {
          sign = λ negative. sign-kind k z c.in-None.ensures.unsigned value (sym told.sign
              ∙ negative);
          value = value;
        });
      },
    )
