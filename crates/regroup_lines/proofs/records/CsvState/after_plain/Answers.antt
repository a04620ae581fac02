use Rattle.regroup_lines.proofs.Common.{ap, inl, inr, is_inside, ◌∙◌}
use Rattle.regroup_lines.proofs.RecordLemmas.{after-last, after-quoted}
use Rattle.regroup_lines.proofs.records.CsvState.after_plain.Goals as goal

pub returns-in-Quoted : goal.returns-in-Quoted
returns-in-Quoted c = after-quoted c.args.quotes c.args.self c.args.text.now (ap is_inside c.in-Quoted.is) c.requires

pub returns-in-len1-up : goal.returns-in-len1-up
returns-in-len1-up c =
    c.after_byte.ensures
    ∙ after-last c.args.quotes c.args.self c.args.text.now (elim c.in-Start.is [
      | inl is ↦ rw is tt
      | inr is
          ↦ rw is tt
    ]) c.in-len1-up.len_at_least c.requires
