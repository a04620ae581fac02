-- The sums of columns, with the number of one more text.
use Rattle.std.proofs.Common.{◌≡◌, ℕ, ◌+◌, ◌<◌, ◌≤◌, List, [], ◌∷◌, ◌++◌, length, drop, take, get_or, None, Some, ap, arith, refl}
use Rattle.std.proofs.Common.{subst, sym, ◌∙◌}
use Rattle.std.proofs.lemmas.List.{length_push, length-drop, length-take-le, set-get_or, take_all, take_more}
use Rattle.std.specs.Io.KnownBytes.{append_known}
use Rattle.std.specs.Prelude.{Err, IfSome, Ok, Option, Result, zero, suc, slice_set}
use Rattle.num_format.specs.Format.{FormatData}
use Rattle.num_format_decimal.specs.FixedPoint.{FixedPoint}
use Rattle.regroup_stream.specs.Columns.{AddsLine, AddsText, AddsTexts, AreAdded, AreNumbers, IsLineOf, IsNumber, IsPastAt, between_tabs}
use Rattle.regroup_stream.specs.Columns.{with_number, with_number_at, with_numbers, without_mark}
use Rattle.regroup_stream.specs.Sums.{KeepsSums, SumsTo}
use Rattle.regroup_stream.specs.Words.{plain}
use Rattle.regroup_stream.proofs.TabLemmas.{next-text}
use Rattle.regroup_stream.specs.declared.sums.Unsummed.{Unsummed}
use Rattle.regroup_stream.specs.declared.sums.Unsummed.TheVariants.{Failed, TooLarge}

abbrev Sums : Type 0
Sums = List (Option FixedPoint)

pub no_number : (sum : Option FixedPoint) → with_number sum None ≡ sum
no_number None = refl
no_number (Some sum) = refl

pub at-end : (number : Option FixedPoint) (sums : Sums) → with_number_at (length sums) number sums ≡ sums ++ number ∷ []
at-end number [] = refl
at-end number (sum ∷ sums) = ap (λ l. sum ∷ l) (at-end number sums)

pub at-inside : (column : ℕ) (number : Option FixedPoint) (sums : Sums) → column < length sums
    → with_number_at column number sums ≡ slice_set sums column (with_number (get_or sums column None) number)
at-inside column number [] inside = absurd (omega arith)
at-inside zero number (sum ∷ sums) inside = refl
at-inside (suc column) number (sum ∷ sums) inside = ap (λ l. sum ∷ l) (at-inside column number sums (omega (arith, inside)))

pub at-reaches : (column : ℕ) (number : Option FixedPoint) (sums : Sums) → column ≤ length sums
    → column < length (with_number_at column number sums)
at-reaches column number [] within = omega (arith, within)
at-reaches zero number (sum ∷ sums) within = omega arith
at-reaches (suc column) number (sum ∷ sums) within = let rest = at-reaches column number sums (omega (arith, within)) in omega (arith, rest)

pub all-reached : (numbers sums : Sums) → length numbers ≤ length (with_numbers numbers sums)
all-reached [] sums = omega arith
all-reached (number ∷ numbers) [] = omega arith
all-reached (number ∷ numbers) (sum ∷ sums) = let rest = all-reached numbers sums in omega (arith, rest)

numbers-more : (numbers sums : Sums) (number : Option FixedPoint)
    → with_numbers (numbers ++ number ∷ []) sums ≡ with_number_at (length numbers) number (with_numbers numbers sums)
numbers-more [] [] number = refl
numbers-more [] (sum ∷ sums) number = refl
numbers-more (first ∷ numbers) [] number = sym (ap (λ l. first ∷ l) (at-end number numbers))
numbers-more (first ∷ numbers) (sum ∷ sums) number = ap (λ l. with_number sum first ∷ l) (numbers-more numbers sums number)

-- where the numbers of the texts before are added, the next column is there, or follows those
pub column-reached : (format : FormatData) (texts : List (List ℕ)) (old mid : Sums) (column : ℕ) (more : List (List ℕ))
    → AreAdded format (take column texts) old mid → drop column texts ≡ more → 0 < length more → column ≤ length mid
column-reached format texts old mid column more before next some =
    let rest = length-drop column texts in
    let left = ap length next in
    let within : column ≤ length texts = omega (arith, rest, left, some) in
    let count = before.count in
    let taken = length-take-le column texts within in
    let reached = all-reached before.numbers old in
    rw before.added (omega (arith, count, taken, reached))

-- where the numbers of the texts before are added, and this one is next
module _ (format : FormatData) (texts : List (List ℕ)) (old mid new : Sums) (column : ℕ) (text : List ℕ) (more : List (List ℕ))
    (before : AreAdded format (take column texts) old mid) where
  pub AreAdded-more : drop column texts ≡ text ∷ more → (number : Option FixedPoint) × IsNumber format text number
      × (new ≡ with_number_at column number mid) → AreAdded format (take (column + 1) texts) old new
  AreAdded-more next adds =
      let turn = next-text texts column text more next in
      let inside = turn.0 in
      let number = adds.0 in
      let count : length before.numbers ≡ column = before.count ∙ length-take-le column texts (omega arith) in
      let more : take (column + 1) texts ≡ take column texts ++ text ∷ [] =
      take_more texts column text inside ∙ ap (λ t. take column texts ++ t ∷ []) (sym turn.1) in
      record {
        numbers = before.numbers ++ number ∷ [];
        are = subst (λ t. AreNumbers format t (before.numbers ++ number ∷ [])) (sym more) (AreNumbers.more _ _ _ _ before.are adds.1);
        count = length_push before.numbers number ∙ ap (λ n. n + 1) before.count ∙ sym (length_push (take column texts) text)
            ∙ ap length (sym more);
        added = adds.2 ∙ ap (λ n. with_number_at n number mid) (sym count) ∙ ap (with_number_at (length before.numbers) number)
            before.added ∙ sym (numbers-more before.numbers old number);
      }

  -- it is not added
  pub not_added : (why : Unsummed) → drop column texts ≡ text ∷ more → AddsText format text column mid new (Err why)
      → AddsTexts format texts old new (Err why)
  not_added TooLarge next past =
      let turn = next-text texts column text more next in
      record { column = column; mid = mid; text = text; before = before; within = turn.0; here = sym turn.1; past = past }
  not_added (Failed kind) next past = tt

-- the last text
pub last-added : (format : FormatData) (texts : List (List ℕ)) (old mid new : Sums) (column : ℕ) (text : List ℕ)
    (result : Result (Unit {0}) Unsummed) → AreAdded format (take column texts) old mid → drop column texts ≡ text ∷ []
    → AddsText format text column mid new result → AddsTexts format texts old new result
last-added format texts old mid new column text (Ok added) before last adds =
    let rest = length-drop column texts in
    let one = ap length last in
    subst (λ t. AreAdded format t old new) (take_all (column + 1) texts (omega (arith, rest, one)))
    (AreAdded-more format texts old mid new column text [] before last adds)
last-added format texts old mid new column text (Err why) before last adds =
    not_added format texts old mid new column text [] before why last adds

-- the texts of a line that ends
module _ (format : FormatData) (bytes line unmarked : List ℕ) (old new : Sums) (is : IsLineOf bytes line)
    (none : unmarked ≡ without_mark line) where
  pub line-added : AreAdded format (between_tabs unmarked) old new → AddsLine format bytes old new None
  line-added added = (line, is, subst (λ u. AreAdded format (between_tabs u) old new) none added)

  pub line-not_added : (why : Unsummed) → AddsTexts format (between_tabs unmarked) old new (Err why)
      → AddsLine format bytes old new (Some why)
  line-not_added TooLarge past = (line, is, subst (λ u. IsPastAt format (between_tabs u) old) none past)
  line-not_added (Failed kind) past = tt

-- a number in the next column, in one before, or none there
module _ (column : ℕ) (sums new : Sums) where
  pub put-end : (number : Option FixedPoint) → column ≡ length sums → new ≡ sums ++ number ∷ []
      → new ≡ with_number_at column number sums
  put-end number here put = put ∙ sym (ap (λ n. with_number_at n number sums) here ∙ at-end number sums)

  pub put-inside : (number : FixedPoint) (sum : FixedPoint) (old : Option FixedPoint) → column < length sums → old ≡ get_or sums column None
      → Some sum ≡ with_number old (Some number) → new ≡ slice_set sums column (Some sum) → new ≡ with_number_at column (Some number) sums
  put-inside number sum old inside at is put =
      put ∙ ap (slice_set sums column) (is ∙ ap (λ o. with_number o (Some number)) at) ∙ sym (at-inside column (Some number) sums inside)

  pub put-none : column < length sums → new ≡ sums → new ≡ with_number_at column None sums
  put-none inside put =
      put ∙ sym (at-inside column None sums inside ∙ ap (slice_set sums column) (no_number (get_or sums column None))
      ∙ set-get_or sums column None)

-- what is known of sums: at the start, of a line whose numbers are added, and of one after a sum that is past 128 bits
pub sums-start : (format : FormatData) (received : Option (List ℕ)) → plain ≡ Some format → IfSome received (λ bytes. bytes ≡ []) →
    KeepsSums format None [] received
sums-start format None is empty = (is, tt)
sums-start format (Some bytes) is empty = (is, subst (λ b. SumsTo format b (Some [])) (sym empty) SumsTo.none)

pub sums-added : (format : FormatData) (received : Option (List ℕ)) (bytes : List ℕ) (old new : Sums) (failure : Option Unsummed) →
    KeepsSums format None old received → AddsLine format bytes old new failure → KeepsSums format failure new (append_known received bytes)
sums-added format None bytes old new failure so_far adds = (so_far.0, tt)
sums-added format (Some before) bytes old new None so_far adds =
    (so_far.0, SumsTo.more before bytes adds.0 old new so_far.1 adds.1 adds.2)
sums-added format (Some before) bytes old new (Some TooLarge) so_far adds =
    (so_far.0, SumsTo.past before bytes adds.0 old so_far.1 adds.1 adds.2)
sums-added format (Some before) bytes old new (Some (Failed kind)) so_far adds = (so_far.0, tt)

pub sums-later : (format : FormatData) (received : Option (List ℕ)) (bytes : List ℕ) (sums : Sums) (why : Unsummed) →
    KeepsSums format (Some why) sums received → KeepsSums format (Some why) sums (append_known received bytes)
sums-later format None bytes sums why so_far = (so_far.0, tt)
sums-later format (Some before) bytes sums TooLarge so_far = (so_far.0, SumsTo.later before bytes so_far.1)
sums-later format (Some before) bytes sums (Failed kind) so_far = (so_far.0, tt)
