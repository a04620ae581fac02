use Rattle.regroup_lines.proofs.Common.{IsUtf8-from_is_utf8, ap, decimal_in, false_from_ne_true, is_utf8, is_utf8-from_IsUtf8, read_by}
use Rattle.regroup_lines.proofs.Common.{refl, ◌∙◌}
use Rattle.regroup_lines.proofs.number.Parser.read_in_digits.Goals as goal

pub returns-in-Ok : goal.returns-in-Ok
returns-in-Ok g c =
    let is = c.in-Ok.ensures.cases in
    rw (is_utf8-from_IsUtf8 _ is.1) (c.read_text.ensures ∙ ap (decimal_in (read_by c.args.reading) c.args.self.now) is.0)

pub returns-in-Err : goal.returns-in-Err
returns-in-Err g c =
    rw (false_from_ne_true (is_utf8 c.args.text.now) (λ valid. c.in-Err.ensures.cases.0 (IsUtf8-from_is_utf8 _ valid))) refl
