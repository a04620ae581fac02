use Rattle.num_format_affixes.specs.Accounting.{marks_of}
use Rattle.num_format_affixes.specs.Affixes.{first_len}
use Rattle.num_format_affixes.specs.declared.side.Side.TheVariants.{Start, End}
use Rattle.num_format_affixes.proofs.PartedLemmas.{marked-once, parted-once}
use Rattle.num_format_affixes.proofs.laws.split_once.Goals as goal

pub returns-clause-affixes : goal.returns-clause-affixes
returns-clause-affixes c = λ affixes text p q. parted-once (first_len Start affixes text) (first_len End affixes) text p q

pub returns-clause-negative : goal.returns-clause-negative
returns-clause-negative c = λ minus_sign text p q. marked-once (marks_of minus_sign text) text p q
