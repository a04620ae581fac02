use Rattle.std.proofs.Common.{◌-◌, ◌∙◌, [], ◌∷◌, ap, drop, get_or, length, sym, subst, take}
use Rattle.std.proofs.lemmas.Bool.{both_ways}
use Rattle.std.proofs.lemmas.List.{take_rest}
use Rattle.num_format_parsing.specs.Shapes.{BeginsWithDigit}
use Rattle.num_format_parsing.proofs.NumberLemmas.{one-byte}
use Rattle.num_format_parsing.proofs.CanonicalLemmas.{reading-body, canonical-zero, not_canonical-zero}
use Rattle.num_format_parsing.proofs.reading.read.Goals as goal

pub returns-then-begins_with_digit : goal.returns-then-begins_with_digit
returns-then-begins_with_digit g c = λ f sign separator grouping.
    let a = c.args in
    let t = a.text.now in
    let start = a.sign.len in
    reading-body g.N.Sealed.kind f t a.separator.now (take (length t - start) (drop start t)) a.grouping a.sign.is_negative start
    (take_rest t start) sign separator grouping
    (c.begins_with_digit.ensures.0 c.if-begins_with_digit.true) c.read_body.result c.read_body.ensures

pub returns-then-text-ne1 : goal.returns-then-text-ne1
returns-then-text-ne1 g c = λ f sign separator grouping z.
    let t = c.args.text.now in
    not_canonical-zero f t c.args.sign.is_negative c.args.sign.len z sign
    (λ begin. both_ways _ c.if-begins_with_digit.false (c.begins_with_digit.ensures.1
    (subst BeginsWithDigit (sym (take_rest t c.args.sign.len)) begin))) (λ same. c.if-text-ne1.true (ap length same))

pub returns-then-byte-ne48 : goal.returns-then-byte-ne48
returns-then-byte-ne48 g c = λ f sign separator grouping z.
    let t = c.args.text.now in
    not_canonical-zero f t c.args.sign.is_negative c.args.sign.len z sign
    (λ begin. both_ways _ c.if-begins_with_digit.false (c.begins_with_digit.ensures.1
    (subst BeginsWithDigit (sym (take_rest t c.args.sign.len)) begin))) (λ same. c.if-byte-ne48.true (ap (λ xs. get_or xs 0 0) same))

pub returns : goal.returns
returns g c = λ f sign separator grouping. canonical-zero f c.args.text.now c.args.sign.is_negative
    (one-byte c.args.text.now c.if-text-ne1.false ∙ ap (λ b. b ∷ []) c.if-byte-ne48.false)
