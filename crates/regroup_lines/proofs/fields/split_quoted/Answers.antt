use Rattle.regroup_lines.proofs.Common.{ap, arith, drop, sym, take, take_rest, ◌+◌, ◌∙◌}
use Rattle.regroup_lines.proofs.CsvLemmas.{quoted-closed, quoted-pair, quoted-plain}
use Rattle.regroup_lines.proofs.fields.split_quoted.Goals as goal

pub bytes-preserved-then-text-at-ne-QUOTE : goal.bytes-preserved-then-text-at-ne-QUOTE
bytes-preserved-then-text-at-ne-QUOTE c =
    (omega arith, quoted-plain c.args.text.now c.bytes.at (omega arith) c.bytes.invariant.1 c.if-text-at-ne-QUOTE.true)

pub bytes-preserved : goal.bytes-preserved
bytes-preserved c =
    quoted-pair c.args.text.now c.bytes.at (omega arith) c.bytes.invariant.1 c.if-text-at-ne-QUOTE.false (sym c.is_opened.ensures.value
    ∙ c.if-is_opened.true)

pub returns-else-is_opened-clause-quoted : goal.returns-else-is_opened-clause-quoted
returns-else-is_opened-clause-quoted c =
    ap (λ n. take n c.args.text.now) (quoted-closed c.args.text.now c.bytes.at (omega arith) c.bytes.invariant.1 c.if-text-at-ne-QUOTE.false
    (sym c.is_opened.ensures.value ∙ c.if-is_opened.false))

pub returns-else-is_opened-clause-bare : goal.returns-else-is_opened-clause-bare
returns-else-is_opened-clause-bare c =
    take_rest c.args.text.now (c.bytes.at + 1)
    ∙ ap (λ n. drop (n + 1) c.args.text.now) (quoted-closed c.args.text.now c.bytes.at
    (omega arith) c.bytes.invariant.1 c.if-text-at-ne-QUOTE.false (sym c.is_opened.ensures.value ∙ c.if-is_opened.false))
