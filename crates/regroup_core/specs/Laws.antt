-- A law of records that come in pieces.
use Rattle.std.specs.Prelude.{◌≡◌, ℕ, ◌+◌, List, ◌++◌, length, Option, None, Some}
use Rattle.std.specs.Option.{option_map}
use Rattle.regroup_core.specs.Records.{after_text, end_of, ends_in, state_after, through_end}
use Rattle.regroup_core.specs.declared.record.Within.{Within}

-- what is found in some bytes after others, by what is found in them alone, from where those end
pub record GoesOn (quotes : Option ℕ) (line_end : ℕ) (within : Within) (front back : List ℕ) : Type 0 where
  pub end : end_of quotes line_end within (front ++ back)
      ≡ option_map (λ n. length front + n) (end_of quotes line_end (after_text quotes within front) back)
  pub line_ends : ends_in line_end (through_end (end_of quotes line_end within (front ++ back)) (front ++ back))
      ≡ ends_in line_end front + ends_in line_end (through_end (end_of quotes line_end (after_text quotes within front) back) back)
  pub state : state_after quotes (end_of quotes line_end within (front ++ back)) within (front ++ back)
      ≡ state_after quotes (end_of quotes line_end (after_text quotes within front) back) (after_text quotes within front) back

-- a record that ends in the first of two pieces ends there in both, and otherwise the search goes on in the second
abbrev pub PiecesLaw : Type 0
PiecesLaw = (quotes : Option ℕ) (line_end : ℕ) (within : Within) (front back : List ℕ) →
    ((n : ℕ) → end_of quotes line_end within front ≡ Some n → end_of quotes line_end within (front ++ back) ≡ Some n)
    × (end_of quotes line_end within front ≡ None → GoesOn quotes line_end within front back)
