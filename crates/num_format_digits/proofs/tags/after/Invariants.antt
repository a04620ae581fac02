use Rattle.std.proofs.Common.{◌≡◌, length}
use Rattle.num_format_digits.specs.Tags.{after, parts}
use Rattle.num_format_digits.proofs.tags.after.Given as goal

-- none so far is the word
abbrev pub invariant-loop-part : goal.invariant-loop-part
invariant-loop-part l = after l.word (parts l.tag) ≡ after l.word (parts l.left)

abbrev pub decreases-loop-part : goal.decreases-loop-part
decreases-loop-part l = length l.left
