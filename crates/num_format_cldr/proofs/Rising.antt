-- The order of the names, and the bytes that they do not have.
use Rattle.std.proofs.Common.{◌≡◌, ℕ, zero, suc, ◌<◌, List, [], ◌∷◌, length, slice_index_or, refl, subst, arith, Bool, true, false, ◌&&◌}
use Rattle.std.proofs.Common.{All, Contains, not, nat_eq}
use Rattle.std.specs.List.{list_all}
use Rattle.std.specs.Ordering.{nat_cmp}
use Rattle.std.specs.declared.cmp.Ordering.{Ordering}
use Rattle.std.specs.declared.cmp.Ordering.TheVariants.{Less, Equal, Greater}
use Rattle.std.specs.Cmp.{first_so, second_so}
use Rattle.std.specs.Cmp.Lexicographic.{slice_cmp}
use Rattle.std.proofs.lemmas.Cmp.{nat_list_cmp_total}
use Rattle.std.proofs.lemmas.List.Sums.{AllPass-from_list_all}
use lib.Utf8.{encode}
use Rattle.num_format_cldr.specs.Entry.{Rises}
use Rattle.num_format_cldr.specs.Families.{families}
use Rattle.num_format_cldr.specs.Table.{members, table_names}

-- whether a comparison says less
abbrev is_less : Ordering → Bool
is_less Less = true
is_less Equal = false
is_less Greater = false

-- what that test says
less_from_test : (o : Ordering) → is_less o ≡ true → o ≡ Less
less_from_test Less h = refl
less_from_test Equal h = cc
less_from_test Greater h = cc

-- whether each text is less than the next
abbrev pub rises : List (List ℕ) → Bool
rises [] = true
rises (x ∷ []) = true
rises (x ∷ (y ∷ ys)) = is_less (slice_cmp nat_cmp x y) && rises (y ∷ ys)

-- the tail of a list that rises, rises
rises_tail : (x : List ℕ) (ys : List (List ℕ)) → rises (x ∷ ys) ≡ true → rises ys ≡ true
rises_tail x [] h = refl
rises_tail x (y ∷ ys) h = second_so _ _ h

-- the first text is less than every other
rises_first : (x : List ℕ) (ys : List (List ℕ)) → rises (x ∷ ys) ≡ true → (k : ℕ) → k < length ys
    → slice_cmp nat_cmp x (slice_index_or ys k []) ≡ Less
rises_first x [] h k within = absurd (omega arith)
rises_first x (y ∷ ys) h zero within = less_from_test _ (first_so _ _ h)
rises_first x (y ∷ ys) h (suc k) within =
    nat_list_cmp_total.trans x y (slice_index_or ys k []) (less_from_test _ (first_so _ _ h))
    (rises_first y ys (second_so _ _ h) k (omega arith))

-- where each text is less than the next, it is less than every later one
pub Rises-from_test : (xs : List (List ℕ)) → rises xs ≡ true → Rises xs
Rises-from_test [] h j k before within = absurd (omega arith)
Rises-from_test (x ∷ xs) h j zero before within = absurd (omega arith)
Rises-from_test (x ∷ xs) h zero (suc k) before within = rises_first x xs h k (omega arith)
Rises-from_test (x ∷ xs) h (suc j) (suc k) before within =
    Rises-from_test xs (rises_tail x xs h) j k (omega arith) (omega arith)

-- the test, computed over all names
names_pass : rises table_names ≡ true
unfolding encode families members table_names
names_pass = refl

-- the names rise
pub names_rise : Rises table_names
names_rise = Rises-from_test table_names names_pass

-- whether a text has no underscore
abbrev has_none : List ℕ → Bool
has_none name = list_all (λ byte. not (nat_eq byte 95)) name

-- what that test says
has_none-says : (name : List ℕ) → has_none name ≡ true → Contains name 95 → ⊥
has_none-says name h at =
    let here : not (nat_eq (slice_index_or name at.0 95) 95) ≡ true = AllPass-from_list_all _ name h at.0 95 at.1 in
    let no : false ≡ true = subst (λ n. not (nat_eq n 95) ≡ true) at.2 here in
    cc

-- computed over all names
all_have_none : list_all has_none table_names ≡ true
unfolding encode families members table_names
all_have_none = refl

-- no name has an underscore (95)
pub names_have_no_underscore : All (λ name. Contains name 95 → ⊥) table_names
names_have_no_underscore = λ k d within. has_none-says _ (AllPass-from_list_all has_none table_names all_have_none k d within)
