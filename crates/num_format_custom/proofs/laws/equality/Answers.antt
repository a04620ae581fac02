use Rattle.std.proofs.Common.{rules, ◌≡◌, ap, refl, sym, ℕ, List, Bool, true, false, true≢false, ◌&&◌, nat_eq}
use Rattle.std.specs.Prelude.{Ok, Err}
use Rattle.std.specs.Cmp.{unsigned_Decides}
use Rattle.std.specs.Cmp.Lexicographic.{pointwise, pointwise_decides}
use Rattle.std.specs.Result.{result_eq}
use Rattle.num_format_text.specs.contracts.grouping.Grouping.{the_type}
use denote.Enum.Bare.{same_true}
use Rattle.num_format_custom.specs.Building.{Choice}
use Rattle.num_format_custom.proofs.laws.equality.Goals as goal

-- the test of two texts
text_same-true : (s t : List ℕ) → pointwise nat_eq s t ≡ true → s ≡ t
text_same-true s t = (pointwise_decides unsigned_Decides s t).0

text_same-itself : (s : List ℕ) → pointwise nat_eq s s ≡ true
text_same-itself s = (pointwise_decides unsigned_Decides s s).1 refl

-- the test of two choices
abbrev same : Choice → Choice → Bool
same = result_eq (pointwise nat_eq) nat_eq

same-true : (r s : Choice) → same r s ≡ true → r ≡ s
same-true (Ok x) (Ok y) e = ap Ok (text_same-true x y e)
same-true (Ok x) (Err n) e = cc
same-true (Err m) (Ok y) e = cc
same-true (Err m) (Err n) e = ap Err ((unsigned_Decides m n).0 e)

same-itself : (r : Choice) → same r r ≡ true
same-itself (Ok x) = text_same-itself x
same-itself (Err n) = (unsigned_Decides n n).1 refl

-- what both of two tests say
both : {P Q : Type 0} {s t : Bool} → (s ≡ true → P) → (t ≡ true → Q) → (s && t) ≡ true → P × Q
both {s = true} p q e = (p refl, q e)
both {s = false} p q e = absurd (true≢false (sym e))

pub returns-clause-formats : goal.returns-clause-formats
returns-clause-formats c = record {
  equal = λ x y. (
    λ e.
        let equal =
        both (text_same-true x.decimal y.decimal) (
        both (same_true the_type (search rules) x.grouping y.grouping) (
        both (text_same-true x.infinity y.infinity) (
        both (text_same-true x.minus_sign y.minus_sign) (
        both (text_same-true x.nan y.nan) (
        both (text_same-true x.plus_sign y.plus_sign) (text_same-true x.separator y.separator)))))) e in
        λ i. record {
          decimal = equal.0 i;
          grouping = equal.1.0 i;
          infinity = equal.1.1.0 i;
          minus_sign = equal.1.1.1.0 i;
          nan = equal.1.1.1.1.0 i;
          plus_sign = equal.1.1.1.1.1.0 i;
          separator = equal.1.1.1.1.1.1 i;
        },
    λ p. search (rules, text_same-itself),
  );
  clone = λ x y k. search rules;
  never_refused = λ x. search rules depth 12;
}

pub returns-clause-builders : goal.returns-clause-builders
returns-clause-builders c = record {
  equal = λ x y. (
    λ e.
        let equal =
        both (same-true x.decimal y.decimal) (
        both (same_true the_type (search rules) x.grouping y.grouping) (
        both (same-true x.infinity y.infinity) (
        both (same-true x.minus_sign y.minus_sign) (
        both (same-true x.nan y.nan) (
        both (same-true x.plus_sign y.plus_sign) (same-true x.separator y.separator)))))) e in
        λ i. record {
          decimal = equal.0 i;
          grouping = equal.1.0 i;
          infinity = equal.1.1.0 i;
          minus_sign = equal.1.1.1.0 i;
          nan = equal.1.1.1.1.0 i;
          plus_sign = equal.1.1.1.1.1.0 i;
          separator = equal.1.1.1.1.1.1 i;
        },
    λ p. search (rules, same-itself),
  );
  clone = λ x y k. search rules;
  never_refused = λ x. search rules depth 12;
}
