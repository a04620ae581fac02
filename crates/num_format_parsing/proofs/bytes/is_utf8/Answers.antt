use Rattle.std.proofs.Common.{◌∙◌, refl, sym}
use Rattle.std.proofs.lemmas.Str.{IsUtf8-from_ascii}
use Rattle.num_format_parsing.proofs.NumberLemmas.{ascii-all}
use Rattle.num_format_parsing.proofs.bytes.is_utf8.Goals as goal

pub returns-then-is_ascii : goal.returns-then-is_ascii
returns-then-is_ascii c =
    let all = sym c.is_ascii.ensures ∙ c.if-is_ascii.true in
    (λ _. IsUtf8-from_ascii c.args.bytes.now (ascii-all c.args.bytes.now all), λ _. refl)
