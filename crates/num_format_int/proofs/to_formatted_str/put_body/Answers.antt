use Rattle.std.proofs.Common.{◌+◌, ◌++◌, ◌∙◌, length, ap, sym, arith, length-append}
use Rattle.std.proofs.lemmas.List.{length-map}
use Rattle.num_format_int.specs.Digits.{digits}
use Rattle.num_format_int.specs.Groups.{plain}
use Rattle.num_format_int.specs.Text.{body_of}
use Rattle.num_format_int.proofs.DigitLemmas.{length-digits-le, length-digits-le39}
use Rattle.num_format_int.proofs.GroupedLemmas.{grouped-short, length-grouped-le183}
use Rattle.num_format_int.proofs.to_formatted_str.put_body.Goals as goal

pub returns-then-n-lt-FOUR_DIGITS-clause-text : goal.returns-then-n-lt-FOUR_DIGITS-clause-text
returns-then-n-lt-FOUR_DIGITS-clause-text g c =
    let f = g.F.Format.answers c.args.format.now in
    c.put_first_group.ensures
    ∙ ap (λ t. t ++ g.B.PutFront.held c.args.buffer.now) (sym (grouped-short f.grouping f.separator (digits c.args.n)
    (length-digits-le 3 c.args.n (omega arith) (omega arith))))

pub returns-then-n-lt-FOUR_DIGITS-clause-room : goal.returns-then-n-lt-FOUR_DIGITS-clause-room
returns-then-n-lt-FOUR_DIGITS-clause-room g c =
    omega (
      arith,
      ap length c.put_first_group.ensures,
      length-append (plain (digits c.args.n)) (g.B.PutFront.held c.args.buffer.now),
      length-map (digits c.args.n) (λ d. 48 + d),
      length-digits-le 3 c.args.n (omega arith) (omega arith),
    )

pub returns-clause-room : goal.returns-clause-room
returns-clause-room g c =
    let f = g.F.Format.answers c.args.format.now in
    omega (
      arith,
      ap length c.put_long_body.ensures.text,
      length-append (body_of f c.args.n) (g.B.PutFront.held c.args.buffer.now),
      length-grouped-le183 f.grouping f.separator (digits c.args.n) c.put_long_body.ensures.separator
          (length-digits-le39 c.args.n (omega arith)),
    )
