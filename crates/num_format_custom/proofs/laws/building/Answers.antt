use Rattle.std.proofs.Common.{◌≡◌, ◌∙◌, List, [], ◌∷◌, refl, sym, ap}
use Rattle.std.specs.Prelude.{Option, Some, None, unwrap_or, fold}
use Rattle.std.specs.List.{cons_option, filter_map, last_or}
use Rattle.num_format_custom.specs.Building.{Call, Choices, SetDecimal, SetFormat, SetGrouping, SetInfinity, SetMinusSign, SetNan}
use Rattle.num_format_custom.specs.Building.{SetPlusSign, SetSeparator, after_call, built, last_choices, to_decimal, to_grouping}
use Rattle.num_format_custom.specs.Building.{to_infinity, to_minus_sign, to_nan, to_plus_sign, to_separator}
use Rattle.num_format_custom.proofs.laws.building.Goals as goal

-- what one more value in front of a list does to its last value
last_or-cons_option : {X : Type 0} (o : Option X) (ys : List X) (x : X)
    → unwrap_or (last_or None ys) (unwrap_or o x) ≡ unwrap_or (last_or None (cons_option o ys)) x
last_or-cons_option None ys x = refl
last_or-cons_option (Some y) [] x = refl
last_or-cons_option (Some y) (z ∷ ys) x = sym (last_or-cons_option (Some z) ys y) ∙ last_or-cons_option (Some z) ys x

-- the values that a call gives are those that a builder has after it
after_call-given : (before : Choices) (call : Call) → after_call before call ≡ record {
  decimal = unwrap_or (to_decimal call) before.decimal;
  grouping = unwrap_or (to_grouping call) before.grouping;
  infinity = unwrap_or (to_infinity call) before.infinity;
  minus_sign = unwrap_or (to_minus_sign call) before.minus_sign;
  nan = unwrap_or (to_nan call) before.nan;
  plus_sign = unwrap_or (to_plus_sign call) before.plus_sign;
  separator = unwrap_or (to_separator call) before.separator;
}
after_call-given before (SetDecimal text) = refl
after_call-given before (SetGrouping grouping) = refl
after_call-given before (SetInfinity text) = refl
after_call-given before (SetMinusSign text) = refl
after_call-given before (SetNan text) = refl
after_call-given before (SetPlusSign text) = refl
after_call-given before (SetSeparator text) = refl
after_call-given before (SetFormat f) = refl

fold-after_call : (calls : List Call) (before : Choices) → fold after_call before calls ≡ last_choices before calls
fold-after_call [] before = refl
fold-after_call (call ∷ calls) before = fold-after_call calls (after_call before call)
    ∙ ap (λ c. last_choices c calls) (after_call-given before call) ∙ (λ i. record {
      decimal = last_or-cons_option (to_decimal call) (filter_map to_decimal calls) before.decimal i;
      grouping = last_or-cons_option (to_grouping call) (filter_map to_grouping calls) before.grouping i;
      infinity = last_or-cons_option (to_infinity call) (filter_map to_infinity calls) before.infinity i;
      minus_sign = last_or-cons_option (to_minus_sign call) (filter_map to_minus_sign calls) before.minus_sign i;
      nan = last_or-cons_option (to_nan call) (filter_map to_nan calls) before.nan i;
      plus_sign = last_or-cons_option (to_plus_sign call) (filter_map to_plus_sign calls) before.plus_sign i;
      separator = last_or-cons_option (to_separator call) (filter_map to_separator calls) before.separator i;
    })

pub returns : goal.returns
returns c = record {
  last = λ before calls. fold-after_call calls before;
  same = λ c d xs ys agree. ap built (fold-after_call xs c ∙ agree ∙ sym (fold-after_call ys d));
}
