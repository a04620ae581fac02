use Rattle.std.proofs.Common.{◌≡◌, sym, length, arith, refl, rules}
use Rattle.num_format_c.specs.Columns.{HasOffsets}
use Rattle.num_format_c.specs.Layout.{IsEnough}
use Rattle.num_format_c.proofs.LayoutLemmas.{whole_rows}
use Rattle.num_format_c.proofs.columns.parse_column.Goals as goal

pub parse_rows-requires-clause-values : goal.parse_rows-requires-clause-values
parse_rows-requires-clause-values g c =
    let whole = whole_rows g.N.Value.repr c.args.values.now c.args.texts.now.validity c.in-Some.n (sym c.in-Some.ensures) in
    let many : c.in-Some.n ≡ length c.args.statuses.now = omega arith in
    rw (← many) whole

pub returns : goal.returns
returns g c = λ s given.
    let many : length c.args.statuses.now ≡ c.in-Some.n = omega arith in
    let enough : IsEnough c.args.offset_type c.in-Some.n (length c.args.texts.now.offsets.now) = search rules in
    let good : HasOffsets c.args.offset_type c.args.texts.now c.in-Some.n = search rules in
    rw (← c.in-Some.ensures) record {
      bad_length = λ wrong. absurd (wrong (enough, many));
      bad_offsets = λ _ wrong. absurd (wrong good);
      parsed = λ _ _. (refl, rw many at (c.parse_rows.ensures s given));
    }
