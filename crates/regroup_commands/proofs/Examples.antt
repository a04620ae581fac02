-- The output for some command lines; 10 is the newline.
use Rattle.std.proofs.Common.{◌≡◌, [], ◌∷◌, ◌++◌, None, Some, refl}
use Rattle.std.specs.Prelude.{codes, pos, negsuc, ◌-◌, ◌^◌}
use Rattle.std.specs.Fmt.{digits as printed_digits}
use Rattle.num_format.specs.Digits.{digits}
use Rattle.regroup_commands.specs.Output.{output_of}
use Rattle.regroup_commands.specs.Request.{number_in}

millions : output_of (codes "custom" ∷ codes "," ∷ codes "Standard" ∷ codes "-" ∷ codes "-1000000" ∷ [])
    ≡ record { status = 0; stdout = codes "-1,000,000" ++ 10 ∷ []; stderr = [] }
unfolding digits
millions = refl

no_separator_and_no_sign : output_of (codes "custom" ∷ [] ∷ codes "Indian" ∷ [] ∷ codes "-100000" ∷ [])
    ≡ record { status = 0; stdout = codes "100000" ++ 10 ∷ []; stderr = [] }
unfolding digits
no_separator_and_no_sign = refl

-- two texts are too long: the error is that of the minus sign
two_errors : output_of (codes "custom" ∷ codes "123456789" ∷ codes "Standard" ∷ codes "1234567890" ∷ codes "1" ∷ [])
    ≡ record {
      status = 1;
      stdout = [];
      stderr = codes "Attempted to write input of length 10 bytes into a buffer with capacity 8 bytes." ++ 10 ∷ [];
    }
unfolding printed_digits
two_errors = refl

unknown_grouping : output_of (codes "custom" ∷ codes "123456789" ∷ codes "Chinese" ∷ codes "-" ∷ codes "1" ∷ [])
    ≡ record { status = 2; stdout = []; stderr = codes "usage: regroup COMMAND ARGUMENT..." ++ 10 ∷ [] }
unknown_grouping = refl

no_number : output_of (codes "custom" ∷ codes "123456789" ∷ codes "Standard" ∷ codes "-" ∷ codes "1e3" ∷ [])
    ≡ record { status = 2; stdout = []; stderr = codes "usage: regroup COMMAND ARGUMENT..." ++ 10 ∷ [] }
no_number = refl

no_arguments : output_of (codes "custom" ∷ [])
    ≡ record { status = 2; stdout = []; stderr = codes "usage: regroup COMMAND ARGUMENT..." ++ 10 ∷ [] }
no_arguments = refl

no_words : output_of [] ≡ record { status = 2; stdout = []; stderr = codes "usage: regroup COMMAND ARGUMENT..." ++ 10 ∷ [] }
no_words = refl

no_number_under_a_locale : output_of (codes "print" ∷ codes "en" ∷ codes "1e3" ∷ [])
    ≡ record { status = 2; stdout = []; stderr = codes "usage: regroup COMMAND ARGUMENT..." ++ 10 ∷ [] }
no_number_under_a_locale = refl

names_with_an_argument : output_of (codes "names" ∷ codes "x" ∷ [])
    ≡ record { status = 2; stdout = []; stderr = codes "usage: regroup COMMAND ARGUMENT..." ++ 10 ∷ [] }
names_with_an_argument = refl

lowest : number_in (codes "-170141183460469231731687303715884105728") ≡ Some (negsuc (2 ^ 127 - 1))
lowest = refl

below_lowest : number_in (codes "-170141183460469231731687303715884105729") ≡ None
below_lowest = refl

plus_sign : number_in (codes "+5") ≡ Some (pos 5)
plus_sign = refl

sign_alone : number_in (codes "-") ≡ None
sign_alone = refl
