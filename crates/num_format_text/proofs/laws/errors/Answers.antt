use Rattle.std.proofs.Common.{◌≡◌, ◌∙◌, ℕ, zero, suc, List, [], ◌∷◌, refl, sym, ap}
use Rattle.std.specs.Hash.{HashWrites, le_bytes}
use Rattle.std.specs.Int.{from_le_bytes, w64}
use Rattle.std.proofs.lemmas.Nat.{from_le_bytes-to_le_bytes_8}
use Rattle.num_format_text.specs.Refusal.{Refusal, Capacity, Other, ParseLocale, ParseNumber, HasUsizes, ErrorHashLaw, refusal_of}
use Rattle.num_format_text.specs.declared.error_kind.ErrorKind.{ErrorKind}
use Rattle.num_format_text.specs.declared.error_kind.ErrorKind.TheVariants as kind
use Rattle.num_format_text.proofs.HashLemmas.{first_byte}
use Rattle.num_format_text.proofs.laws.errors.Goals as goal

-- the bytes that a hasher is given second, and third
abbrev second_write : HashWrites → List ℕ
second_write (first ∷ (bytes ∷ writes)) = bytes
second_write _ = []

abbrev third_write : HashWrites → List ℕ
third_write (first ∷ (second ∷ (bytes ∷ writes))) = bytes
third_write _ = []

-- the kind of a number, with the lengths or the text that the bytes after it write
abbrev variant : ℕ → List ℕ → List ℕ → Refusal
variant zero second third = Capacity (from_le_bytes w64 second) (from_le_bytes w64 third)
variant (suc zero) second third = Other second
variant (suc (suc zero)) second third = ParseLocale second
variant (suc (suc (suc n))) second third = ParseNumber second

abbrev told_by : HashWrites → Refusal
told_by writes = variant (first_byte writes) (second_write writes) (third_write writes)

-- what a hasher is given for an error
abbrev fed : Refusal → HashWrites
fed (Capacity len cap) = le_bytes 8 0 ∷ (le_bytes 8 len ∷ (le_bytes 8 cap ∷ []))
fed (Other text) = le_bytes 8 1 ∷ (text ∷ ((255 ∷ []) ∷ []))
fed (ParseLocale text) = le_bytes 8 2 ∷ (text ∷ ((255 ∷ []) ∷ []))
fed (ParseNumber text) = le_bytes 8 3 ∷ (text ∷ ((255 ∷ []) ∷ []))

fed_tells : (refusal : Refusal) → HasUsizes refusal → told_by (fed refusal) ≡ refusal
unfolding le_bytes
fed_tells (Capacity len cap) within = ap (λ n. Capacity n (from_le_bytes w64 (le_bytes 8 cap))) (from_le_bytes-to_le_bytes_8 len within.0)
    ∙ ap (λ n. Capacity len n) (from_le_bytes-to_le_bytes_8 cap within.1)
fed_tells (Other text) within = refl
fed_tells (ParseLocale text) within = refl
fed_tells (ParseNumber text) within = refl

-- a fact of each of the four is one of all kinds
each : (P : ErrorKind → Type 0) → ((len cap : ℕ) → P (kind.Capacity len cap)) → ((text : _) → P (kind.Other text))
    → ((text : _) → P (kind.ParseLocale text)) →
    ((text : _) → P (kind.ParseNumber text)) → (error : ErrorKind) → P error
each P capacity other parse_locale parse_number (kind.Capacity len cap) = capacity len cap
each P capacity other parse_locale parse_number (kind.Other text) = other text
each P capacity other parse_locale parse_number (kind.ParseLocale text) = parse_locale text
each P capacity other parse_locale parse_number (kind.ParseNumber text) = parse_number text

hashed : (input : ErrorKind → HashWrites) → ((error : ErrorKind) → input error ≡ fed (refusal_of error)) → ErrorHashLaw input
hashed input is_fed = record {
  alike = λ x y same. is_fed x.0 ∙ ap fed same ∙ sym (is_fed y.0);
  distinct = λ x y same. sym (fed_tells _ x.1) ∙ ap told_by (sym (is_fed x.0) ∙ same ∙ is_fed y.0) ∙ fed_tells _ y.1;
}

pub returns-clause-hashed_kinds : goal.returns-clause-hashed_kinds
unfolding le_bytes
returns-clause-hashed_kinds c = hashed _ (each _ (λ len cap. refl) (λ text. refl) (λ text. refl) (λ text. refl))

pub returns-clause-hashed_errors : goal.returns-clause-hashed_errors
unfolding le_bytes
returns-clause-hashed_errors c = hashed _ (each _ (λ len cap. refl) (λ text. refl) (λ text. refl) (λ text. refl))
