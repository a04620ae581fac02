-- The fault of a text that is not a number.
use Rattle.regroup_lines.proofs.Common.{◌≡◌, ℕ, false, List, refl, IsUtf8, is_utf8, false_from_ne_true, IsUtf8-from_is_utf8}
use Rattle.regroup_lines.proofs.Common.{is_utf8-from_IsUtf8, cut_text, ParseNumber, Fault, in_field, NotText, Line, text_fault}

pub text_fault_utf8 : (number : ℕ) (text : List ℕ) → IsUtf8 text → text_fault number text ≡ Line number (ParseNumber (cut_text text))
text_fault_utf8 number text utf8 = rw (is_utf8-from_IsUtf8 text utf8) refl

pub text_fault_bytes : (number : ℕ) (text : List ℕ) → ¬ (IsUtf8 text) → text_fault number text ≡ NotText number
text_fault_bytes number text invalid =
    let no : is_utf8 text ≡ false = false_from_ne_true (is_utf8 text) (λ yes. invalid (IsUtf8-from_is_utf8 text yes)) in
    rw no refl

-- a fault names one field
pub in_field_again : (m n : ℕ) (fault : Fault) → in_field m (in_field n fault) ≡ in_field n fault
in_field_again m n (NotText number) = refl
in_field_again m n fault = refl
