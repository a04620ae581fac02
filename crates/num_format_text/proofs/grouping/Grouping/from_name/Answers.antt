use Rattle.std.proofs.Common.{rules, tests, ◌∙◌}
use Rattle.std.specs.Prelude.{bytes_eq}
use Rattle.std.proofs.lemmas.Iterator.{YieldsList-from_slice}
use Rattle.std.proofs.lemmas.Iterator.Search.{find_from_yields_List}
use Rattle.num_format_text.specs.GroupingNames.{grouping_name, groupings}
use Rattle.num_format_text.proofs.grouping.Grouping.from_name.Goals as goal

pub returns : goal.returns
returns c =
    c.copied.ensures ∙ find_from_yields_List (λ g. bytes_eq c.args.name.now (grouping_name g)) _ _ c.find.result c.find.ensures.ran
    (YieldsList-from_slice groupings (cc)) (λ x b q k. search (rules, tests))
