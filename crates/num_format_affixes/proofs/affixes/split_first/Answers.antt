use Rattle.std.proofs.Common.{◌≡◌, ◌++◌, ◌∙◌, ap, sym}
use Rattle.std.specs.Prelude.{encode_utf8}
use Rattle.std.proofs.lemmas.Str.{chars_past_char, encodes-chars}
use Rattle.num_format_affixes.proofs.affixes.split_first.Goals as goal

pub returns-in_default-clause-whole : goal.returns-in_default-clause-whole
returns-in_default-clause-whole c = encodes-chars c.args.text.now c.utf8.text

pub returns-clause-parts : goal.returns-clause-parts
returns-clause-parts c =
    let first : c.args.text.now ≡ encode_utf8 c.in-Some.first ++ c.as_str.result.now =
    sym c.chars-chars.ensures.rest ∙ c.in-Some.ensures.steps.0 ∙ ap (λ r. encode_utf8 c.in-Some.first ++ r) (sym c.as_str.ensures) in
    (chars_past_char c.args.text.now c.as_str.result.now c.in-Some.first c.utf8.text first, first)

pub returns-clause-whole : goal.returns-clause-whole
returns-clause-whole c = encodes-chars c.args.text.now c.utf8.text
