-- What regrouping writes and returns of some inputs, by computing the definition.
use Rattle.regroup_lines.proofs.Common.{Ended, Err, Failed, Line, None, Ok, ParseNumber, Read, Some, Unread, [], codes, lenient, refl}
use Rattle.regroup_lines.proofs.Common.{regrouped, returning, ◌∷◌, ◌≡◌}
use Rattle.num_format.specs.Cut.{cut_text}
use Rattle.std.specs.Str.{chars, is_utf8}
use Rattle.num_format.specs.English.{english}
use Rattle.regroup_faults.specs.Notation.{latin}

no_bytes : regrouped lenient 1000000 (latin english) (latin english) Ended [] ≡ returning (Some (Ok 0))
no_bytes = refl

no_bytes_and_a_failed_read : regrouped lenient 1000000 (latin english) (latin english) Failed [] ≡ returning (Some (Err Read))
no_bytes_and_a_failed_read = refl

no_bytes_so_far : regrouped lenient 1000000 (latin english) (latin english) Unread [] ≡ returning None
no_bytes_so_far = refl

-- a failed read is not the end
digit_and_a_failed_read : regrouped lenient 1000000 (latin english) (latin english) Failed (codes "8") ≡ returning (Some (Err Read))
digit_and_a_failed_read = refl

empty_line : regrouped lenient 1000000 (latin english) (latin english) Ended (10 ∷ []) ≡ returning (Some (Err (Line 1 (ParseNumber []))))
unfolding chars cut_text is_utf8
empty_line = refl
