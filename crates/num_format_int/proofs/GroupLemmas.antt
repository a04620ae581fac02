-- Groups of digits and what is prepended to them, wherever separators are due.
use Rattle.std.proofs.Common.{◌≡◌, ℕ, ◌+◌, ◌-◌, ◌*◌, ◌/◌, ◌%◌, ◌^◌, ◌<◌, ◌≤◌, ◌⊎◌, inl, inr, Bool, true, false, List, [], ◌∷◌, ◌++◌, length}
use Rattle.std.proofs.Common.{refl, ap, ◌∙◌, sym, arith, append-nil, append_assoc, length-append}
use Rattle.std.proofs.lemmas.Bool.Decides.{nat_tests}
use Rattle.num_format_text.specs.declared.grouping.Sizes.{Sizes}
use Rattle.num_format_text.specs.Separators.{HaveShape, separates}
use Rattle.num_format_int.specs.Digits.{digits}
use Rattle.num_format_int.specs.Grouped.{separated}
use Rattle.num_format_int.specs.Groups.{last_digits, plain, HasLastGroup, HasGroups, HasOnlyGroups, BeginsWithSeparator, BeginsBefore}
use Rattle.num_format_int.specs.Groups.{PrependsGroups, PrependsAllBut, PrependsDigits, IsGroupedBefore}
use Rattle.num_format_int.proofs.GroupedLemmas.{separated-plain, separated-none}
use Rattle.num_format_int.proofs.DigitLemmas.{digits-split, digits-leading_one, digits_given, length-digits-le, length-digits-split}
use Rattle.num_format_int.proofs.DigitLemmas.{length-last_digits, last_digits-mod, digits-joined}

-- a group has two digits to four
pub size_bounds : (size : ℕ) → (size ≡ 2) ⊎ ((size ≡ 3) ⊎ (size ≡ 4)) → (2 ≤ size) × (size ≤ 4)
size_bounds size sizes = (omega arith, omega arith)

pub groups-by : (sizes : Sizes) → HaveShape sizes → (d : ℕ) → HasGroups (separates sizes d) sizes.size
groups-by sizes shape d = record {
  before = λ right due. grind (arith, nat_tests, shape, due);
  within = λ right k due some below. grind (arith, nat_tests, shape, due, some, below);
}

step-by : (sizes : Sizes) (d right : ℕ) → separates sizes d right ≡ true
    → (right ≡ sizes.last) ⊎ ((sizes.last + sizes.size ≤ right) × (separates sizes d (right - sizes.size) ≡ true)) →
    (right ≡ sizes.last) ⊎ ((fewer : ℕ) × (right ≡ sizes.size + fewer) × (separates sizes d fewer ≡ true))
step-by sizes d right due either =
    elim either [ inl last ↦ inl last | inr (more, before) ↦ inr (right - sizes.size, omega (arith, more), before) ]

-- where sizes put separators: before a last group and before groups of that size to its left, and nowhere else
pub only-by : (sizes : Sizes) → HaveShape sizes → (d : ℕ) → HasOnlyGroups (separates sizes d) sizes.last sizes.size
only-by sizes shape d = record {
  groups = groups-by sizes shape d;
  none = λ right few. grind (arith, nat_tests, few);
  step = λ right due.
      let last : sizes.last ≤ right = grind (arith, nat_tests, due) in
      elim shape [
        | inl (three, size) ↦ step-by sizes d right due (grind (arith, nat_tests, three, size, due))
        | inr (inl (three, size)) ↦ step-by sizes d right due (grind (arith, nat_tests, three, size, due))
        | inr (inr (four, size)) ↦ step-by sizes d right due (grind (arith, nat_tests, four, size, due))
      ];
}

-- in a number of enough digits one stands before the last group
pub last_group-by : (sizes : Sizes) (d : ℕ) → sizes.least ≤ d → HasLastGroup (separates sizes d) sizes.last
last_group-by sizes d many = record {
  before = grind (arith, nat_tests, many);
  within = λ k below. grind (arith, nat_tests, below);
}

-- a group before digits that have a separator to their left
separated-group : (is_due : ℕ → Bool) (s ds right : List ℕ) → 0 < length ds → is_due (length right) ≡ true →
    ((k : ℕ) → 0 < k → k < length ds → is_due (k + length right) ≡ false) →
    plain ds ++ (s ++ separated is_due s right) ≡ separated is_due s (ds ++ right)
separated-group is_due s [] right some due none = absurd (omega arith)
separated-group is_due s (d ∷ []) right some due none = rw due
separated-group is_due s (d ∷ e ∷ ds) right some due none =
    let not_due : is_due (length (e ∷ (ds ++ right))) ≡ false = ap is_due (simp length-append (omega arith))
    ∙ none (length (e ∷ ds)) (omega arith) (omega arith) in
    rw (not_due, ← separated-group is_due s (e ∷ ds) right (omega arith) due (λ k more below. none k more (omega arith)))

-- a group before others, and the separator before it
pub put-group : (is_due : ℕ → Bool) (s ds right text : List ℕ) (size : ℕ) → HasGroups is_due size → 0 < size → length ds ≡ size
    → BeginsWithSeparator is_due s right text →
    BeginsWithSeparator is_due s (ds ++ right) (s ++ (plain ds ++ text))
put-group is_due s ds right text size groups some long begins = record {
  due = rw (length-append, long) (groups.before (length right) begins.due);
  same = rw (
    begins.same,
    separated-group is_due s ds right (omega arith) begins.due
        (λ k more below. groups.within (length right) k begins.due more (omega arith)),
  );
}

-- the first group, which has no separator before it
pub put-first_group : (is_due : ℕ → Bool) (s ds right text : List ℕ) (size : ℕ) → HasGroups is_due size → 0 < length ds → length ds ≤ size
    → BeginsWithSeparator is_due s right text →
    plain ds ++ text ≡ separated is_due s (ds ++ right)
put-first_group is_due s ds right text size groups some few begins =
    rw (
      begins.same,
      separated-group is_due s ds right some begins.due
          (λ k more below. groups.within (length right) k begins.due more (omega arith)),
    )

-- the last group of a number, and the separator before it
pub last_group : (is_due : ℕ → Bool) (s old new : List ℕ) (last n : ℕ) → HasLastGroup is_due last
    → new ≡ s ++ (plain (last_digits last n) ++ old) → BeginsBefore is_due s (last_digits last n) old new
last_group is_due s old new last n groups e =
    let ds = last_digits last n in
    record {
      text = s ++ plain ds;
      begins = record {
        due = rw (length-last_digits last n) groups.before;
        same = ap (λ text. s ++ text)
            (sym (separated-plain is_due s ds (λ k below. groups.within k (omega (arith, length-last_digits last n)))));
      };
      same = e ∙ sym (append_assoc s (plain ds) old);
    }

-- a group to its left
one_group : (size n : ℕ) (s before after : List ℕ) → 0 < size → after ≡ s ++ (plain (last_digits size n) ++ before)
    → PrependsGroups size (last_digits size n) s before after
one_group size n s before after some e = λ is_due right old groups b.
    let ds = last_digits size n in
    record {
      text = s ++ (plain ds ++ b.text);
      begins = put-group is_due s ds right b.text size groups some (length-last_digits size n) b.begins;
      same = e ∙ ap (λ t. s ++ (plain ds ++ t)) b.same ∙ simp append_assoc;
    }

-- no group yet
pub none_put : (size n : ℕ) (s before : List ℕ) → PrependsAllBut size n n s before before
none_put size n s before = record {
  low = [];
  count = 0;
  together = sym (append-nil (digits n));
  whole = omega arith;
  text = λ is_due right old groups b. b;
}

-- one group more
pub one_more : (size n left base : ℕ) (s before text after : List ℕ) → (size ≡ 2) ⊎ ((size ≡ 3) ⊎ (size ≡ 4)) → base ≡ 10 ^ size
    → base ≤ left → PrependsAllBut size n left s before text →
    after ≡ s ++ (plain (last_digits size (left % base)) ++ text) → PrependsAllBut size n (left / base) s before after
one_more size n left base s before text after sizes power large p e =
    let some = size_bounds size sizes in
    let many : 10 ^ size ≤ left = rw (← power) large in
    let group = one_group size left s text after (omega (arith, some.0)) (rw (power, last_digits-mod) at e) in
    rw power (record {
      low = last_digits size left ++ p.low;
      count = p.count + 1;
      together = p.together ∙ rw (digits-split size left many, append_assoc);
      whole = omega (arith, length-append (last_digits size left) p.low, length-last_digits size left, p.whole);
      text = λ is_due right old groups b. rw append_assoc (group is_due (p.low ++ right) old groups (p.text is_due right old groups b));
    })

-- all groups, and then the first
pub all_digits : (size base n first : ℕ) (s before middle after : List ℕ) → (size ≡ 2) ⊎ ((size ≡ 3) ⊎ (size ≡ 4)) → base ≡ 10 ^ size
    → first < base → PrependsAllBut size n first s before middle → after ≡ plain (digits first) ++ middle →
    PrependsDigits size (digits n) s before after
all_digits size base n first s before middle after sizes power below p e = λ is_due right old groups b.
    let some = size_bounds size sizes in
    let q = p.text is_due right old groups b in
    e
    ∙ ap (λ t. plain (digits first) ++ t) q.same
    ∙ sym (append_assoc (plain (digits first)) q.text old)
    ∙ ap (λ t. t ++ old) (put-first_group is_due s (digits first) (p.low ++ right) q.text size groups (digits_given first)
    (length-digits-le size first (omega (arith, some.0)) (rw power at below)) q.begins)
    ∙ rw (p.together, append_assoc) refl

one_digit_left : (size middle count few : ℕ) → (size ≡ 2) ⊎ ((size ≡ 3) ⊎ (size ≡ 4)) → middle % size ≡ 0 → 0 < few → few ≤ size
    → middle + 1 ≡ few + size * count → few ≡ 1
one_digit_left size middle count few sizes whole some within all = grind (arith, sizes, whole, some, within, all)

after_one : (ds low rest : List ℕ) (d : ℕ) → length ds ≡ 1 → d ∷ rest ≡ ds ++ low → low ≡ rest
after_one [] low rest d one e = absurd (omega arith)
after_one (c ∷ []) low rest d one e = cc
after_one (c ∷ b ∷ ds) low rest d one e = absurd (omega arith)

-- a digit 1 and then the digits of a middle part: these are whole groups, and the 1 is the first group
pub middle_groups : (size base middle leading part first : ℕ) (s before after : List ℕ) → (size ≡ 2) ⊎ ((size ≡ 3) ⊎ (size ≡ 4))
    → base ≡ 10 ^ size → leading ≡ 10 ^ middle → middle % size ≡ 0 → part < 10 ^ middle → first < base →
    PrependsAllBut size (leading + part) first s before after → PrependsGroups size (last_digits middle part) s before after
middle_groups size base middle leading part first s before after sizes power leads whole below within p = λ is_due right old groups b.
    let some = size_bounds size sizes in
    let all = sym (digits-leading_one middle part below) ∙ ap (λ n. digits (n + part)) (sym leads) ∙ p.together in
    let long = ap length all ∙ length-append (digits first) p.low in
    let alone = one_digit_left size middle p.count (length (digits first)) sizes whole (digits_given first)
    (length-digits-le size first (omega (arith, some.0)) (rw power at within))
    (omega (arith, long, p.whole, length-last_digits middle part)) in
    rw (after_one (digits first) p.low (last_digits middle part) 1 alone all) at (p.text is_due right old groups b)

-- a group and its separator fit, if five bytes a digit did
pub group_fits : (held separator size base left most : ℕ) → (size ≡ 2) ⊎ ((size ≡ 3) ⊎ (size ≡ 4)) → base ≡ 10 ^ size → base ≤ left
    → separator ≤ 8 → held + 5 * length (digits left) ≤ most →
    held + separator + size + 5 * length (digits (left / base)) ≤ most
group_fits held separator size base left most sizes power large short within =
    let split = length-digits-split size left (rw (← power) large) in
    let same : length (digits (left / base)) ≡ length (digits (left / 10 ^ size)) = rw power in
    omega arith

-- a last group has three digits or four
pub last_bounds : (size middle : ℕ) → ((size ≡ 3) × (middle ≡ 18)) ⊎ ((size ≡ 4) × (middle ≡ 16)) → (3 ≤ size) × (size ≤ 4)
last_bounds size middle parts = (omega arith, omega arith)

-- the digits of two parts of a number
pub both_parts : (size k first part : ℕ) (s old middle new : List ℕ) → 0 < first → part < 10 ^ k
    → PrependsGroups size (last_digits k part) s old middle → PrependsDigits size (digits first) s middle new →
    PrependsDigits size (digits (first * 10 ^ k + part)) s old new
both_parts size k first part s old middle new some below groups ds = λ is_due right text grouped before.
    ds is_due (last_digits k part ++ right) text grouped (groups is_due right text grouped before)
    ∙ rw (digits-joined k first part some below, append_assoc) refl

-- digits in groups, with a separator of no byte
pub ungrouped : (ds old new : List ℕ) → IsGroupedBefore 3 3 [] ds old new → new ≡ plain ds ++ old
ungrouped ds old new before =
    let threes : Sizes = record { last = 3; size = 3; least = 0 } in
    before (separates threes (length ds)) (last_group-by threes (length ds) (omega arith)) (groups-by threes (inl (refl, refl)) (length ds))
    ∙ ap (λ t. t ++ old) (separated-none (separates threes (length ds)) ds)
