use Rattle.std.proofs.Common.{arith, ap, ◌∙◌}
use Rattle.num_format_locale.specs.Names.{variant_name_of}
use Rattle.num_format_locale.proofs.VariantLemmas.{length-names, name_at}
use Rattle.num_format_locale.proofs.locale.Locale.variant_name.Goals as goal

pub bounds-variant_names-self-inside : goal.bounds-variant_names-self-inside
bounds-variant_names-self-inside c = omega (arith, length-names c.variant_names.result.now c.variant_names.ensures)

pub returns : goal.returns
returns c = name_at c.variant_names.result.now c.variant_names.ensures c.self.inside.place _ c.self.invariant
    ∙ ap variant_name_of c.self.view_is
