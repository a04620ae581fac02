use Rattle.std.proofs.Common.{◌≡◌, drop}
use Rattle.num_format_affixes.specs.Affixes.{first_len}
use Rattle.num_format_affixes.proofs.affixes.Affixes.len_at.Given as goal

-- none of the affixes so far is there
abbrev pub invariant-loop-affix : goal.invariant-loop-affix
invariant-loop-affix l = first_len l.side l.texts l.text ≡ first_len l.side (drop l.affix-index l.texts) l.text
