use Rattle.regroup_lines.proofs.Common.{drop, ◌≡◌}
use Rattle.regroup_lines.specs.Places.{affix_len}
use Rattle.regroup_lines.proofs.rules.affix_len.Given as goal

-- none of the texts so far is there
abbrev pub invariant-loop-affix : goal.invariant-loop-affix
invariant-loop-affix l = affix_len l.is_end l.affixes l.text ≡ affix_len l.is_end (drop l.affix-index l.affixes) l.text
