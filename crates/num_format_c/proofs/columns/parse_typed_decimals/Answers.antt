use Rattle.std.proofs.Common.{rules, subst, sym}
use Rattle.num_format_decimal.specs.Marks.{MarksDecimals}
use Rattle.num_format_typed.specs.Typed.{IsTypable}
use Rattle.num_format_c.specs.Calls.{returned, typed_at_scale}
use Rattle.num_format_c.specs.Columns.{ParsesUnder, decimal_units, to_parsed}
use Rattle.num_format_c.specs.FormatRef.{IsFormatIn}
use Rattle.num_format_c.proofs.columns.parse_typed_decimals.Goals as goal

pub returns : goal.returns
returns c =
    let a = c.args in
    let s = a.format.now in
    let is = c.in_ok-format.ensures in
    let made = c.in_ok-parser.ensures in
    let under : ParsesUnder (typed_at_scale c.in_ok-scale.scale) (λ d. d.units) decimal_units c.in_ok-offset_type.offset_type s a.texts.now
    (to_parsed a.units.now a.statuses.now) (to_parsed c.parse_column.new.values c.parse_column.new.statuses)
    (returned c.parse_column.result) = record {
      bad_format = λ none. absurd (none is.has_format);
      ambiguous = λ _ wrong. absurd (wrong (subst (λ f. IsTypable f × MarksDecimals f) is.format (made.1, made.2)));
      parsed = λ _ _. c.parse_column.ensures s (
        subst (λ f. IsFormatIn f c.in_ok-format.digits s) (sym made.0) is,
        subst (λ f. IsTypable f × MarksDecimals f) (sym made.0) (made.1, made.2),
      );
    } in
    search (rules, rw c.in_ok-scale.ensures.1 at under)
