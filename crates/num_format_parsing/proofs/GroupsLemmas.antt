-- Digits in groups.
use Rattle.std.proofs.Common.{◌≡◌, ℕ, zero, suc, ◌+◌, ◌-◌, ◌*◌, ◌/◌, ◌%◌, ◌^◌, ◌<◌, ◌≤◌, ◌⊎◌, inl, inr, Bool, true, false, List, [], ◌∷◌}
use Rattle.std.proofs.Common.{◌++◌, length, refl, ap, ◌∙◌, sym, arith, take, drop, get_or, length-append, length-drop, length-take-le}
use Rattle.std.proofs.Common.{take-append-drop, drop-drop, append_assoc, append-nil, subst, Option, Some, None, MatchOption}
use Rattle.std.specs.Prelude.{◌↔◌}
use Rattle.std.specs.Char.{is_ascii_digit}
use Rattle.std.specs.Int.Digits.{number_from_digits}
use Rattle.std.specs.List.{list_all}
use Rattle.std.proofs.Math.Nat.{mod-add-mod}
use Rattle.std.proofs.lemmas.Bool.{cases_Bool, both_ways, and_parts}
use Rattle.std.proofs.lemmas.Bool.Decides.{nat_tests}
use Rattle.std.proofs.lemmas.Int.Digits.{number_after_append}
use Rattle.std.proofs.lemmas.List.{drop_at, length-map, nil_from_length, take_at, take_more}
use Rattle.std.proofs.lemmas.List.Elements.{All-nil, All-cons, All-head, All-tail}
use Rattle.std.proofs.lemmas.List.Folds.{list_all_at}
use Rattle.std.proofs.lemmas.Nat.{mul-mod_first}
use Rattle.num_format_int.specs.Grouped.{separated}
use Rattle.num_format_int.specs.Groups.{plain, HasLastGroup, HasGroups, HasOnlyGroups, BeginsWithSeparator}
use Rattle.num_format_int.proofs.DigitLemmas.{AreDigits}
use Rattle.num_format_int.proofs.GroupLemmas.{put-group, put-first_group}
use Rattle.num_format_int.proofs.GroupedLemmas.{separated-plain}
use Rattle.num_format_parsing.specs.Parts.{number_in, HasDigits, BeginsWithDigits, BeginsWithGroup, AppendsGroup, AreGroups, IsInGroups}
use Rattle.num_format_parsing.specs.Shapes.{byte_digits}
use Rattle.num_format_parsing.specs.Strict.{begins}
use Rattle.num_format_parsing.proofs.DigitLemmas.{digit_char, text_digits-below, text_digits-digit}
use Rattle.num_format_parsing.proofs.NumberLemmas.{number-after}
use Rattle.num_format_parsing.proofs.ReadingLemmas.{digits_among-append, digits_among-first, is_ascii_digit-digit}
use Rattle.num_format_parsing.proofs.UnreadLemmas.{begins-split, plain-first}

-- bytes that are digits are their own digits as text
pub plain-all : (t : List ℕ) → list_all is_ascii_digit t ≡ true → t ≡ plain (byte_digits t)
plain-all [] all = refl
plain-all (b ∷ t) all =
    let both = and_parts (is_ascii_digit b) (list_all is_ascii_digit t) all in
    ap (λ x. b ∷ x) (plain-all t both.1)
    ∙ ap (λ c. c ∷ plain (byte_digits t)) (sym (digit_char b both.0))
    ∙ ap plain (sym (text_digits-digit b t both.0))

pub digits-counted : (t : List ℕ) → list_all is_ascii_digit t ≡ true → length (byte_digits t) ≡ length t
digits-counted t all = sym (ap length (plain-all t all) ∙ length-map (byte_digits t) (λ d. 48 + d))

-- digits as text are digits
all-plain : (ds : List ℕ) → AreDigits ds → list_all is_ascii_digit (plain ds) ≡ true
all-plain [] below = refl
all-plain (d ∷ ds) below = rw (is_ascii_digit-digit d (All-head (λ x. x < 10) d ds below))
    (all-plain ds (All-tail (λ x. x < 10) d ds below))

pub not-plain : (t : List ℕ) (count : ℕ) → BeginsWithDigits t count → ¬ (t ≡ plain (byte_digits t))
not-plain t count begins same =
    both_ways _ (list_all_at is_ascii_digit t count 0 begins.inside begins.stop) (ap (list_all is_ascii_digit) same
    ∙ all-plain (byte_digits t) (text_digits-below t))

-- the digits of a separator and a group are those of the group
text_digits-plain : (ds rest : List ℕ) → AreDigits ds → byte_digits (plain ds ++ rest) ≡ ds ++ byte_digits rest
text_digits-plain [] rest below = refl
text_digits-plain (d ∷ ds) rest below =
    digits_among-first d (plain ds ++ rest) (All-head (λ x. x < 10) d ds below)
    ∙ ap (λ xs. d ∷ xs) (text_digits-plain ds rest (All-tail (λ x. x < 10) d ds below))

text_digits-group : (s : List ℕ) (count : ℕ) (t rest : List ℕ) → byte_digits s ≡ [] → (g : BeginsWithGroup s count t rest)
    → byte_digits t ≡ g.group ++ byte_digits rest
text_digits-group s count t rest none g =
    ap byte_digits g.same ∙ digits_among-append s (plain g.group ++ rest) ∙ ap (λ xs. xs ++ byte_digits (plain g.group ++ rest)) none
    ∙ text_digits-plain g.group rest g.below

length-group : (s : List ℕ) (count : ℕ) (t rest : List ℕ) → BeginsWithGroup s count t rest → length t ≡ length s + (count + length rest)
length-group s count t rest g =
    omega (
      arith,
      ap length g.same,
      length-append s (plain g.group ++ rest),
      length-append (plain g.group) rest,
      length-map g.group (λ d. 48 + d),
      g.long,
    )

-- what follows a group
rest-group : (s : List ℕ) (count : ℕ) (t rest : List ℕ) → BeginsWithGroup s count t rest → rest ≡ drop (length s + count) t
rest-group s count t rest g =
    let long : length (s ++ plain g.group) ≡ length s + count = omega (
      arith,
      length-append s (plain g.group),
      length-map g.group (λ d. 48 + d),
      g.long,
    ) in
    sym (ap (drop (length s + count)) (g.same ∙ sym (append_assoc s (plain g.group) rest))
    ∙ drop_at (s ++ plain g.group) rest (length s + count) long)

length-groups : (last size : ℕ) (s : List ℕ) (count : ℕ) (t : List ℕ) → AreGroups last size s count t → length s + last ≤ length t
length-groups last size s zero t g = omega (arith, length-group s last t [] g)
length-groups last size s (suc count) t (rest, g, groups) = omega (
  arith,
  length-group s size t rest g,
  length-groups last size s count rest groups,
)

-- groups with a separator of one byte have so many bytes and digits
count-groups : (last size : ℕ) (s : List ℕ) (count : ℕ) (t : List ℕ) → length s ≡ 1 → byte_digits s ≡ [] → 0 < size
    → AreGroups last size s count t →
    (length t ≡ length (byte_digits t) + (count + 1)) × (count + last ≤ length (byte_digits t))
    × (size ≤ 3 → length (byte_digits t) ≤ 3 * count + last)
count-groups last size s zero t one none some g =
    let digits : length (byte_digits t) ≡ last = ap length (text_digits-group s last t [] none g ∙ append-nil g.group) ∙ g.long in
    (omega (arith, one, digits, length-group s last t [] g), omega (arith, digits), λ few. omega (arith, digits))
count-groups last size s (suc count) t one none some (rest, g, groups) =
    let more = count-groups last size s count rest one none some groups in
    let digits = ap length (text_digits-group s size t rest none g) ∙ length-append g.group (byte_digits rest)
    ∙ ap (λ k. k + length (byte_digits rest)) g.long in (
      omega (arith, one, digits, more.0, length-group s size t rest g),
      omega (arith, digits, some, more.1),
      λ few. omega (arith, digits, few, more.2 few),
    )

-- so a text in such groups that is longer than the fewest digits that have a separator has as many, and a short one has few
pub count-digits : (last size : ℕ) (s t : List ℕ) → length s ≡ 1 → byte_digits s ≡ [] → 0 < size → 3 ≤ last → IsInGroups last size s t →
    ((least : ℕ) → least ≤ 5 → least < length t → least ≤ length (byte_digits t))
    × (last ≤ 3 → size ≤ 3 → (length t ≤ 25 → length (byte_digits t) ≤ 19) × (length (byte_digits t) + length t / 4 ≤ length t))
count-digits last size s t one none some long whole =
    let counts = count-groups last size s whole.count whole.rest one none some whole.groups in
    let bytes = ap length whole.same ∙ length-append (plain whole.first) whole.rest
    ∙ ap (λ k. k + length whole.rest) (length-map whole.first (λ d. 48 + d)) in
    let digits = ap length (ap byte_digits whole.same ∙ text_digits-plain whole.first whole.rest whole.below)
    ∙ length-append whole.first (byte_digits whole.rest) in (
      λ least few longer. omega (arith, bytes, digits, counts.0, counts.1, whole.some, few, longer, long),
      λ three few. (
        λ short. omega (arith, bytes, digits, counts.0, counts.2 few, whole.few, few, short, three),
        omega (arith, bytes, digits, counts.0, counts.2 few, whole.few, few, three),
      ),
    )

-- groups are digits with their separators, of which one is due before them
groups-due : (is_due : ℕ → Bool) (last size : ℕ) (s : List ℕ) (count : ℕ) (t : List ℕ) → HasLastGroup is_due last → HasGroups is_due size
    → 0 < size → byte_digits s ≡ [] →
    AreGroups last size s count t → BeginsWithSeparator is_due s (byte_digits t) t
groups-due is_due last size s zero t last_group groups some none g =
    let same_digits : byte_digits t ≡ g.group = text_digits-group s last t [] none g ∙ append-nil g.group in
    record {
      due = ap is_due (ap length same_digits ∙ g.long) ∙ last_group.before;
      same =
          g.same
          ∙ ap (λ xs. s ++ xs) (append-nil (plain g.group) ∙ sym (separated-plain is_due s g.group
          (λ k below. last_group.within k (omega (arith, below, g.long)))) ∙ ap (separated is_due s) (sym same_digits));
    }
groups-due is_due last size s (suc count) t last_group groups some none (rest, g, more) =
    let same_digits : byte_digits t ≡ g.group ++ byte_digits rest = text_digits-group s size t rest none g in
    let here = put-group is_due s g.group (byte_digits rest) rest size groups some g.long
    (groups-due is_due last size s count rest last_group groups some none more) in
    subst (λ ds. BeginsWithSeparator is_due s ds t) (sym same_digits) (subst
    (λ x. BeginsWithSeparator is_due s (g.group ++ byte_digits rest) x) (sym g.same) here)

pub separated-groups : (is_due : ℕ → Bool) (last size : ℕ) (s t : List ℕ) → HasLastGroup is_due last → HasGroups is_due size → 0 < size
    → byte_digits s ≡ [] →
    IsInGroups last size s t → t ≡ separated is_due s (byte_digits t)
separated-groups is_due last size s t last_group groups some none whole =
    whole.same
    ∙ put-first_group is_due s whole.first (byte_digits whole.rest) whole.rest size groups whole.some whole.few
    (groups-due is_due last size s whole.count whole.rest last_group groups some none whole.groups)
    ∙ ap (separated is_due s) (sym (ap byte_digits whole.same ∙ text_digits-plain whole.first whole.rest whole.below))

-- digits with their separators: those before the first separator, and groups after them
record Splits (is_due : ℕ → Bool) (last size : ℕ) (s ds : List ℕ) : Type 0 where
  first : List ℕ
  right : ℕ
  rest : List ℕ
  some : 0 < length first
  below : AreDigits first
  same : separated is_due s ds ≡ plain first ++ rest
  long : length ds ≡ length first + right
  due : is_due right ≡ true
  none : (k : ℕ) → k < length first → 0 < k → is_due (k + right) ≡ false
  count : ℕ
  groups : AreGroups last size s count rest

-- a separator before them
splits-due : (is_due : ℕ → Bool) (last size : ℕ) (s ds : List ℕ) (d count : ℕ) → d < 10 → is_due (length ds) ≡ true
    → AreGroups last size s count (s ++ separated is_due s ds) →
    Splits is_due last size s (d ∷ ds)
splits-due is_due last size s ds d count small due groups = record {
  first = d ∷ [];
  right = length ds;
  rest = s ++ separated is_due s ds;
  some = omega arith;
  below = All-cons (λ x. x < 10) d [] small (All-nil (λ x. x < 10));
  same = rw due refl;
  long = omega arith;
  due = due;
  none = λ k few more. absurd (omega (arith, more, few));
  count = count;
  groups = groups;
}

below_suc : (P : ℕ → Type 0) (n : ℕ) → ((k : ℕ) → k < n → P k) → P n → (k : ℕ) → k < suc n → P k
below_suc P n before here k few =
    let either : (k < n) ⊎ (n ≡ k) = grind arith in
    elim either [ inl front ↦ before k front | inr last ↦ subst P last here ]

first-few : (is_due : ℕ → Bool) (last size : ℕ) (s ds : List ℕ) → HasOnlyGroups is_due last size → 0 < size
    → (split : Splits is_due last size s ds) → length split.first ≤ size
first-few is_due last size s ds only given split =
    let either : (length split.first ≤ size) ⊎ (size < length split.first) = grind arith in
    elim either [ inl few ↦ few | inr many ↦ absurd (both_ways _ (split.none size many given) (only.groups.before split.right split.due)) ]

first-whole : (is_due : ℕ → Bool) (last size : ℕ) (s ds : List ℕ) → HasOnlyGroups is_due last size → 0 < size
    → (split : Splits is_due last size s ds) → is_due (length ds) ≡ true →
    length split.first ≡ size
first-whole is_due last size s ds only given split due =
    let n = length split.first in
    let most = first-few is_due last size s ds only given split in
    let either : (n < size) ⊎ (n ≡ size) = grind (arith, most) in
    elim either [
      | inl few ↦ absurd (both_ways _ (only.groups.within split.right n split.due split.some few) (ap is_due (sym split.long) ∙ due))
      | inr same ↦ same
    ]

splits : (is_due : ℕ → Bool) (last size : ℕ) (s ds : List ℕ) → HasOnlyGroups is_due last size → 0 < size → AreDigits ds →
    ((k : ℕ) → k < length ds → is_due k ≡ false) ⊎ Splits is_due last size s ds
splits is_due last size s [] only given below = inl (λ k few. absurd (omega (arith, few)))
splits is_due last size s (d ∷ ds) only given below =
    let small : d < 10 = All-head (λ x. x < 10) d ds below in
    let digits : AreDigits ds = All-tail (λ x. x < 10) d ds below in
    let before = splits is_due last size s ds only given digits in
    elim (cases_Bool (is_due (length ds))) [
      | inl due ↦ elim before [
        | inl none ↦ elim (only.step (length ds) due) [
          | inl whole ↦
              let group : BeginsWithGroup s last (s ++ separated is_due s ds) [] =
              record {
                group = ds;
                below = digits;
                long = whole;
                same = ap (λ xs. s ++ xs) (separated-plain is_due s ds none
                    ∙ sym (append-nil (plain ds)));
              } in
              inr (splits-due is_due last size s ds d 0 small due group)
          | inr (fewer, same, there) ↦ absurd (both_ways _ (none fewer (omega (arith, same, given))) there)
        ]
        | inr split ↦
            let group : BeginsWithGroup s size (s ++ separated is_due s ds) split.rest =
            record {
              group = split.first;
              below = split.below;
              long = first-whole is_due last size s ds only given split due;
              same = ap (λ xs. s ++ xs) split.same;
            } in
            inr (splits-due is_due last size s ds d (suc split.count) small due (split.rest, group, split.groups))
      ]
      | inr off ↦ elim before [
        | inl none ↦ inl (below_suc (λ k. is_due k ≡ false) (length ds) none off)
        | inr split ↦ inr (record {
          first = d ∷ split.first;
          right = split.right;
          rest = split.rest;
          some = omega arith;
          below = All-cons (λ x. x < 10) d split.first small split.below;
          same = rw off (ap (λ xs. (48 + d) ∷ xs) split.same);
          long = omega (arith, split.long);
          due = split.due;
          none = below_suc (λ k. 0 < k → is_due (k + split.right) ≡ false) (length split.first) split.none
              (λ more. ap is_due (sym split.long) ∙ off);
          count = split.count;
          groups = split.groups;
        })
      ]
    ]

-- so they are digits alone or in groups
pub groups-separated : (is_due : ℕ → Bool) (last size : ℕ) (s ds : List ℕ) → HasOnlyGroups is_due last size → 0 < size → AreDigits ds →
    (separated is_due s ds ≡ plain ds) ⊎ IsInGroups last size s (separated is_due s ds)
groups-separated is_due last size s ds only given below =
    elim (splits is_due last size s ds only given below) [
      | inl none ↦ inl (separated-plain is_due s ds none)
      | inr split ↦ inr (record {
        first = split.first;
        some = split.some;
        few = first-few is_due last size s ds only given split;
        below = split.below;
        rest = split.rest;
        same = split.same;
        count = split.count;
        groups = split.groups;
      })
    ]

-- where the first group ends
same-run : (first rest : List ℕ) (count : ℕ) → AreDigits first → is_ascii_digit (get_or rest 0 0) ≡ false
    → BeginsWithDigits (plain first ++ rest) count → length first ≡ count
same-run first rest count below other begins = run first rest count below other begins.inside begins.digits begins.stop
  where
    run : (first rest : List ℕ) (count : ℕ) → AreDigits first → is_ascii_digit (get_or rest 0 0) ≡ false
        → count < length (plain first ++ rest) →
        list_all is_ascii_digit (take count (plain first ++ rest)) ≡ true → is_ascii_digit (get_or (plain first ++ rest) count 0) ≡ false
        → length first ≡ count
    run [] rest zero below other inside all stop = refl
    run [] [] (suc count) below other inside all stop = absurd (omega (arith, inside))
    run [] (b ∷ rest) (suc count) below other inside all stop = absurd
        (both_ways _ other (and_parts (is_ascii_digit b) (list_all is_ascii_digit (take count rest)) all).0)
    run (d ∷ first) rest zero below other inside all stop =
        absurd (both_ways _ stop (is_ascii_digit-digit d (All-head (λ x. x < 10) d first below)))
    run (d ∷ first) rest (suc count) below other inside all stop =
        ap suc (run first rest count (All-tail (λ x. x < 10) d first below) other (omega (arith, inside))
        (and_parts (is_ascii_digit (48 + d)) (list_all is_ascii_digit (take count (plain first ++ rest))) all).1 stop)

group-first : (s : List ℕ) (count : ℕ) (t rest : List ℕ) → 0 < length s → byte_digits s ≡ [] → BeginsWithGroup s count t rest
    → is_ascii_digit (get_or t 0 0) ≡ false
group-first [] count t rest some none g = absurd (omega (arith, some))
group-first (c ∷ s) count t rest some none g = ap (λ xs. is_ascii_digit (get_or xs 0 0)) g.same ∙ plain-first c s none

groups-first : (last size : ℕ) (s : List ℕ) (count : ℕ) (t : List ℕ) → 0 < length s → byte_digits s ≡ [] → AreGroups last size s count t
    → is_ascii_digit (get_or t 0 0) ≡ false
groups-first last size s zero t some none g = group-first s last t [] some none g
groups-first last size s (suc count) t some none (rest, g, groups) = group-first s size t rest some none g

pub first-long : (last size : ℕ) (s t : List ℕ) (count : ℕ) → 0 < length s → byte_digits s ≡ [] → BeginsWithDigits t count
    → (whole : IsInGroups last size s t) → length whole.first ≡ count
first-long last size s t count some none begins whole =
    same-run whole.first whole.rest count whole.below (groups-first last size s whole.count whole.rest some none whole.groups)
    (subst (λ x. BeginsWithDigits x count) whole.same begins)

-- digits after others, modulo a bound
pub digits-appended : (bound : ℕ) (front s group : List ℕ) (count n more : ℕ) → byte_digits s ≡ [] → AreDigits group
    → HasDigits bound front count n →
    more ≡ (n * 10 ^ length group + number_from_digits 10 group) % bound
    → HasDigits bound (front ++ (s ++ plain group)) (count + length group) more
digits-appended bound front s group count n more none below before same =
    let power = 10 ^ length group in
    let value = number_from_digits 10 group in
    let same_digits : byte_digits (front ++ (s ++ plain group)) ≡ byte_digits front ++ group =
    digits_among-append front (s ++ plain group)
    ∙ ap (λ xs. byte_digits front ++ xs) (text_digits-group s (length group) (s ++ plain group) [] none (record {
      group = group;
      below = below;
      long = refl;
      same = ap (λ xs. s ++ xs) (sym (append-nil (plain group)));
    }) ∙ append-nil group) in
    record {
      digit_count = omega (arith, ap length same_digits, length-append (byte_digits front) group, before.digit_count);
      number =
          same
          ∙ ap (λ m. (m * power + value) % bound) before.number
          ∙ sym (mod-add-mod (number_in front % bound * power) bound value)
          ∙ ap (λ m. (m + value) % bound) (mul-mod_first (number_in front) power bound)
          ∙ mod-add-mod (number_in front * power) bound value
          ∙ ap (λ m. m % bound) (sym (ap (number_from_digits 10) same_digits ∙ number_after_append 10 0 (byte_digits front) group
          ∙ number-after (number_in front) group));
    }

-- one digit after others
pub digit-appended : (bound : ℕ) (t : List ℕ) (i n more : ℕ) → i < length t → is_ascii_digit (get_or t i 0) ≡ true
    → HasDigits bound (take i t) i n →
    more ≡ (n * 10 + (get_or t i 0 - 48)) % bound → HasDigits bound (take (i + 1) t) (i + 1) more
digit-appended bound t i n more inside digit before same =
    let b = get_or t i 0 in
    let small : b - 48 < 10 = grind (arith, nat_tests, digit) in
    let value : 0 * 10 + (b - 48) ≡ b - 48 = omega arith in
    subst (λ x. HasDigits bound x (i + 1) more) (ap (λ c. take i t ++ (c ∷ [])) (digit_char b digit) ∙ sym (take_more t i 0 inside))
    (digits-appended bound (take i t) [] ((b - 48) ∷ []) i n more refl
    (All-cons (λ x. x < 10) (b - 48) [] small (All-nil (λ x. x < 10))) before (same ∙ ap (λ d. (n * 10 + d) % bound) (sym value)))

-- a text that does not begin with a group
pub lacks-group : (s behind : List ℕ) (count : ℕ) (t rest : List ℕ) → behind ≡ drop (length s) t
    → list_all is_ascii_digit (take count behind) ≡ false → ¬ (BeginsWithGroup s count t rest)
lacks-group s behind count t rest same off g =
    let digits : take count behind ≡ plain g.group =
    ap (take count) (same ∙ ap (drop (length s)) g.same ∙ drop_at s (plain g.group ++ rest) (length s) refl)
    ∙ take_at (plain g.group) rest count (length-map g.group (λ d. 48 + d) ∙ g.long) in
    both_ways _ off (ap (list_all is_ascii_digit) digits ∙ all-plain g.group g.below)

-- and one that does
pub appends-group : (bound : ℕ) (s behind : List ℕ) (count : ℕ) (t : List ℕ) (n power group more : ℕ) → behind ≡ drop (length s) t
    → begins s t ≡ true → length s + count ≤ length t →
    list_all is_ascii_digit (take count behind) ≡ true → group ≡ number_in (take count behind) → power ≡ 10 ^ length (take count behind)
    → more ≡ (n * power + group) % bound → AppendsGroup bound s count t n more
appends-group bound s behind count t n power group more same begin room digits value tens appends =
    let long : length (take count behind) ≡ count = length-take-le count behind
    (omega (arith, room, ap length same, length-drop (length s) t)) in
    record {
      found = record {
        group = byte_digits (take count behind);
        below = text_digits-below (take count behind);
        long = digits-counted (take count behind) digits ∙ long;
        same =
            begins-split s t begin
            ∙ ap (λ xs. s ++ xs) (sym same ∙ sym (take-append-drop count behind)
            ∙ ap (λ xs. xs ++ drop count behind) (plain-all (take count behind) digits)
            ∙ ap (λ xs. plain (byte_digits (take count behind)) ++ xs) (ap (drop count) same ∙ drop-drop count (length s) t));
      };
      number = appends ∙ ap (λ k. (n * k + group) % bound) (tens ∙ ap (λ k. 10 ^ k) long) ∙ ap (λ k. (n * 10 ^ count + k) % bound) value;
    }

-- a text is read up to a rest
pub record IsReadTo (bound : ℕ) (t rest : List ℕ) (count n : ℕ) : Type 0 where
  pub front : List ℕ
  pub split : t ≡ front ++ rest
  pub digits : HasDigits bound front count n
  pub room : count + length rest ≤ length t

pub read-first : (bound : ℕ) (t : List ℕ) (count n : ℕ) → count ≤ length t → HasDigits bound (take count t) count n
    → IsReadTo bound t (drop count t) count n
read-first bound t count n within digits = record {
  front = take count t;
  split = sym (take-append-drop count t);
  digits = digits;
  room = omega (arith, length-drop count t, within);
}

-- and a group more
pub read-more : (bound : ℕ) (s : List ℕ) (size : ℕ) (t rest : List ℕ) (count n more : ℕ) → byte_digits s ≡ []
    → IsReadTo bound t rest count n → AppendsGroup bound s size rest n more →
    IsReadTo bound t (drop (length s + size) rest) (count + size) more
read-more bound s size t rest count n more none read appends =
    let g = appends.found in
    let front = read.front ++ (s ++ plain g.group) in
    let behind = drop (length s + size) rest in
    record {
      front = front;
      split = read.split ∙ ap (λ xs. read.front ++ xs) (g.same ∙ sym (append_assoc s (plain g.group) behind))
          ∙ sym (append_assoc read.front (s ++ plain g.group) behind);
      digits = subst (λ k. HasDigits bound front (count + k) more) g.long
          (digits-appended bound read.front s g.group count n more none g.below read.digits (appends.number
          ∙ ap (λ k. (n * 10 ^ k + number_from_digits 10 g.group) % bound) (sym g.long)));
      room = omega (arith, read.room, length-group s size rest behind g);
    }

-- to its end
read-all : (bound : ℕ) (t rest : List ℕ) (count n : ℕ) → length rest ≡ 0 → IsReadTo bound t rest count n → HasDigits bound t count n
read-all bound t rest count n none read =
    subst (λ x. HasDigits bound x count n) (sym (read.split ∙ ap (λ xs. read.front ++ xs) (nil_from_length rest none)
    ∙ append-nil read.front)) read.digits

-- a text is in groups if groups are left of it after its first digits
abbrev pub IsLeft : (last size : ℕ) (s t rest : List ℕ) → Type 0
IsLeft last size s t rest = IsInGroups last size s t ↔ ((k : ℕ) × AreGroups last size s k rest)

pub left-first : (last size : ℕ) (s t : List ℕ) (count : ℕ) → 0 < length s → byte_digits s ≡ [] → BeginsWithDigits t count → count ≤ size
    → IsLeft last size s t (drop count t)
left-first last size s t count some none begins few =
    let front = take count t in
    let long : length (byte_digits front) ≡ count = digits-counted front begins.digits
    ∙ length-take-le count t (omega (arith, begins.inside)) in (
      λ whole.
          let first : length (plain whole.first) ≡ count = length-map whole.first (λ d. 48 + d)
          ∙ first-long last size s t count some none begins whole in (
            whole.count,
            subst (AreGroups last size s whole.count) (sym (ap (drop count) whole.same
                ∙ drop_at (plain whole.first) whole.rest count first)) whole.groups,
          ),
      λ groups. record {
        first = byte_digits front;
        some = omega (arith, long, begins.some);
        few = omega (arith, long, few);
        below = text_digits-below front;
        rest = drop count t;
        same = sym (take-append-drop count t) ∙ ap (λ xs. xs ++ drop count t) (plain-all front begins.digits);
        count = groups.0;
        groups = groups.1;
      },
    )

-- where more bytes are left than the last group has, another stands before it
next-group : (last size : ℕ) (s : List ℕ) (k : ℕ) (t : List ℕ) → length s + last < length t → AreGroups last size s k t →
    BeginsWithGroup s size t (drop (length s + size) t) × ((j : ℕ) × AreGroups last size s j (drop (length s + size) t))
next-group last size s zero t long g = absurd (omega (arith, long, length-group s last t [] g))
next-group last size s (suc k) t long (rest, g, groups) =
    let there = rest-group s size t rest g in
    (subst (BeginsWithGroup s size t) there g, (k, subst (AreGroups last size s k) there groups))

-- and else no other
last-group : (last size : ℕ) (s : List ℕ) (k : ℕ) (t : List ℕ) → 0 < size → length t ≤ length s + last → AreGroups last size s k t
    → BeginsWithGroup s last t (drop (length s + last) t)
last-group last size s zero t some few g = subst (BeginsWithGroup s last t) (rest-group s last t [] g) g
last-group last size s (suc k) t some few (rest, g, groups) = absurd
    (omega (arith, few, length-group s size t rest g, length-groups last size s k rest groups, some))

module _ (last size : ℕ) (s t rest : List ℕ) (left : IsLeft last size s t rest) where
  pub left-more : length s + last < length rest → BeginsWithGroup s size rest (drop (length s + size) rest)
      → IsLeft last size s t (drop (length s + size) rest)
  left-more long g = (
    λ whole. let groups = left.0 whole in (next-group last size s groups.0 rest long groups.1).1,
    λ groups. left.1 (suc groups.0, (drop (length s + size) rest, g, groups.1)),
  )

  pub lacks-more : length s + last < length rest → ¬ (BeginsWithGroup s size rest (drop (length s + size) rest))
      → ¬ (IsInGroups last size s t)
  lacks-more long lacks whole = let groups = left.0 whole in lacks (next-group last size s groups.0 rest long groups.1).0

  pub lacks-length : length rest ≤ length s + last → ¬ (length rest ≡ length s + last) → ¬ (IsInGroups last size s t)
  lacks-length few other whole = let groups = left.0 whole in other (omega (arith, few, length-groups last size s groups.0 rest groups.1))

  pub lacks-last : 0 < size → length rest ≡ length s + last → ¬ (BeginsWithGroup s last rest (drop (length s + last) rest))
      → ¬ (IsInGroups last size s t)
  lacks-last some long lacks whole = let groups = left.0 whole in lacks
      (last-group last size s groups.0 rest some (omega (arith, long)) groups.1)

  pub read-last : (bound count n more : ℕ) → byte_digits s ≡ [] → length rest ≡ length s + last → IsReadTo bound t rest count n
      → AppendsGroup bound s last rest n more →
      IsInGroups last size s t × HasDigits bound t (count + last) more
  read-last bound count n more none long read appends =
      let behind = drop (length s + last) rest in
      let nothing : length behind ≡ 0 = omega (arith, long, length-drop (length s + last) rest) in (
        left.1 (0, subst (BeginsWithGroup s last rest) (nil_from_length behind nothing) appends.found),
        read-all bound t behind (count + last) more nothing (read-more bound s last t rest count n more none read appends),
      )

-- what follows of nothing, and of a value
pub map_option : {X : Type 0} {A C : Type 0} {B D : X → Type 0} (r : Option X) → (A → C) → ((x : X) → B x → D x) → MatchOption r A B
    → MatchOption r C D
map_option None of_none of_value both = of_none both
map_option (Some x) of_none of_value both = of_value x both
