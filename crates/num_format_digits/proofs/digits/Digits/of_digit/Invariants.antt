use Rattle.std.proofs.Common.{◌≡◌, drop}
use Rattle.std.specs.Prelude.{find}
use Rattle.num_format_digits.specs.Digits.{is_digit_of, set_of, zeros}
use Rattle.num_format_digits.specs.Sets.{sets}
use Rattle.num_format_digits.proofs.digits.Digits.of_digit.Given as goal

-- none so far has the character
abbrev pub invariant-loop-place : goal.invariant-loop-place
invariant-loop-place l = set_of l.c ≡ find (λ z. is_digit_of z l.c) (drop l.place (zeros sets))
