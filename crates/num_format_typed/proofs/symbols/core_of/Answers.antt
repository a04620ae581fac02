use Rattle.std.proofs.Common.{◌∙◌, ap, sym}
use Rattle.num_format_typed.specs.Classes.{is_of}
use Rattle.num_format_typed.specs.Trimming.{without_ends}
use Rattle.num_format_typed.specs.declared.classes.Class.TheVariants.{Direction}
use Rattle.num_format_typed.proofs.TypableLemmas.{core-hyphen}
use Rattle.num_format_typed.proofs.symbols.core_of.Goals as goal

pub returns-then-is_hyphen-clause-value : goal.returns-then-is_hyphen-clause-value
returns-then-is_hyphen-clause-value c =
    let same = c.is_hyphen.ensures c.if-is_hyphen.true in
    same ∙ sym core-hyphen ∙ ap (without_ends (is_of Direction)) (sym same)
