use Rattle.std.proofs.Common.{◌≡◌, ◌-◌, rules, refl}
use Rattle.std.specs.Prelude.{unwrap_or, encode_utf8}
use Rattle.std.specs.Fmt.{char_count, formatter_spec, spec_width, spec_align, spec_fill}
use Rattle.std.proofs.Output.{has_written_styled_append, has_written_styled_of_eq}
use Rattle.num_format_writers.specs.Columns.{fill_before}
use Rattle.num_format_writers.proofs.ColumnLemmas.{filled_is}
use Rattle.num_format_writers.proofs.formatted.write_filled.Goals as goal

pub returns : goal.returns
returns g c = λ flush ok.
    let spec = formatter_spec c.args.f.now in
    let missing = c.saturating_sub-missing.result in
    let before = c.fill_before-before.result in
    let bytes = c.encode_utf8-fill.result.now in
    let first = c.in_ok-write_repeated.ensures.styled flush refl in
    let text = c.in_ok-write_str.ensures.styled first.flush refl in
    let last = c.write_repeated-2.ensures.styled text.flush ok in
    let short : missing ≡ unwrap_or (spec_width spec) 0 - char_count c.args.text.now = search rules in
    let some : before ≡ fill_before (spec_align spec) missing = search rules in
    let same : bytes ≡ encode_utf8 (spec_fill spec) = search rules in
    has_written_styled_of_eq _ _ _ _ _
    (filled_is (spec_width spec) (spec_align spec) (spec_fill spec) c.args.text.now bytes missing before short some same)
    (has_written_styled_append _ _ _ _ _ _ first (has_written_styled_append _ _ _ _ _ _ text last))
