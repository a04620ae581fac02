use Rattle.regroup_core.proofs.Common.{ap, inl, inr, refl, ◌∙◌}
use Rattle.regroup_core.proofs.RecordLemmas.{after-last, after-quoted}
use Rattle.regroup_core.specs.Records.{is_inside}
use Rattle.regroup_core.proofs.record.Within.after_plain.Goals as goal

pub returns-in-Quoted : goal.returns-in-Quoted
returns-in-Quoted c = after-quoted c.args.quotes c.args.self c.args.text.now (ap is_inside c.in-Quoted.is) c.requires

pub returns-in-len1-up : goal.returns-in-len1-up
returns-in-len1-up c =
    c.after_byte.ensures
    ∙ after-last c.args.quotes c.args.self c.args.text.now (elim c.in-Start.is [
      | inl is ↦ rw is refl
      | inr is
          ↦ rw is refl
    ]) c.in-len1-up.len_at_least c.requires
