use Rattle.std.proofs.Common.{ap, sym, ◌∙◌, arith, Some}
use Rattle.num_format_locale.proofs.VariantLemmas.{length-names, searched, variants_differ}
use Rattle.num_format_locale.proofs.locale.Locale.from_variant_name.Goals as goal

pub at-requires : goal.at-requires
at-requires c = omega (arith, c.in-Ok.ensures.bound, length-names c.variant_names.result.now c.variant_names.ensures)

pub returns-in-Ok-clause-found : goal.returns-in-Ok-clause-found
returns-in-Ok-clause-found c = λ place within same.
    let at = searched c.variant_names.result.now c.variant_names.ensures c.args.text.now c.args.text c.binary_search.result
    c.binary_search.ensures.bound c.binary_search.ensures.position in
    let here = rw c.in-Ok.is at at in
    ap Some (c.at.ensures ∙ variants_differ c.in-Ok.place place here.0 within (sym here.1 ∙ same))

pub returns-in-Ok-clause-named : goal.returns-in-Ok-clause-named
returns-in-Ok-clause-named c =
    let at = searched c.variant_names.result.now c.variant_names.ensures c.args.text.now c.args.text c.binary_search.result
    c.binary_search.ensures.bound c.binary_search.ensures.position in
    rw c.at.ensures (rw c.in-Ok.is at at).1

pub returns-in-Err-clause-found : goal.returns-in-Err-clause-found
returns-in-Err-clause-found c = λ place within same.
    let at = searched c.variant_names.result.now c.variant_names.ensures c.args.text.now c.args.text c.binary_search.result
    c.binary_search.ensures.bound c.binary_search.ensures.position in
    absurd ((rw c.in-Err.is at at) place within same)
