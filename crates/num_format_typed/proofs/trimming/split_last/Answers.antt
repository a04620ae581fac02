use Rattle.std.proofs.Common.{◌≡◌, ◌++◌, ◌∙◌, ap, sym, length, arith}
use Rattle.std.specs.Prelude.{encode_utf8}
use Rattle.std.proofs.lemmas.Str.{encodes-chars}
use Rattle.num_format_typed.proofs.RewritingLemmas.{chars-none, chars-push}
use Rattle.num_format_typed.proofs.trimming.split_last.Goals as goal

pub returns-in_default-clause-parts : goal.returns-in_default-clause-parts
returns-in_default-clause-parts c = chars-none c.args.text.now
    (omega (arith, ap length c.chars-chars.ensures.rest, c.in_default.ensures.steps))

pub returns-in_default-clause-whole : goal.returns-in_default-clause-whole
returns-in_default-clause-whole c = encodes-chars c.args.text.now c.utf8.text

pub returns-clause-parts : goal.returns-clause-parts
returns-clause-parts c =
    let last : c.args.text.now ≡ c.as_str.result.now ++ encode_utf8 c.in-Some.last =
    sym c.chars-chars.ensures.rest ∙ c.in-Some.ensures.steps ∙ ap (λ r. r ++ encode_utf8 c.in-Some.last) (sym c.as_str.ensures) in
    (chars-push c.args.text.now c.as_str.result.now c.in-Some.last c.utf8.text c.as_str.utf8 last, last)

pub returns-clause-whole : goal.returns-clause-whole
returns-clause-whole c = encodes-chars c.args.text.now c.utf8.text
