-- Both results of one division on paper.
use Rattle.std.proofs.Common.{refl}
use Rattle.num_format_decimal.proofs.ScaleLemmas.{long_division}
use Rattle.num_format_decimal.proofs.powers.divide_by.Goals as goal

pub returns-clause-whole : goal.returns-clause-whole
returns-clause-whole g c = (long_division c.args.n _ _ _ _ g.row.BY _ c.requires.0 refl refl refl refl refl).0

pub returns-clause-rest : goal.returns-clause-rest
returns-clause-rest g c = (long_division c.args.n _ _ _ _ g.row.BY _ c.requires.0 refl refl refl refl refl).1
