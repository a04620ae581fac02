use Rattle.std.proofs.Common.{sym, take}
use Rattle.num_format_digits.proofs.TextLemmas.{shown_back}
use Rattle.num_format_digits.proofs.digits.Digits.take_plain.Goals as goal

pub returns-then-is_plain-clause-text : goal.returns-then-is_plain-clause-text
returns-then-is_plain-clause-text c =
    let a = take c.in_ok-len.len c.take_text.new.array in
    let taken = c.in_ok-len.ensures in
    let back = shown_back c.args.self c.args.text.now a taken.set (taken.plain c.if-is_plain.true) taken.shown in
    (back.0, back.1, sym back.2)
