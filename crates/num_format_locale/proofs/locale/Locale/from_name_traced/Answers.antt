use Rattle.std.proofs.Common.{subst}
use Rattle.num_format_locale.specs.Search.{Finds, RulesOut}
use Rattle.num_format_locale.proofs.SearchLemmas.{looked_up, refused, unspelled}
use Rattle.num_format_locale.proofs.locale.Locale.from_name_traced.Goals as goal

pub returns-in-Some-default-clause-looked_up : goal.returns-in-Some-default-clause-looked_up
returns-in-Some-default-clause-looked_up c =
    let found = rw c.in-Some-default.is-0 at c.search.ensures.found in
    let within = rw c.in-Some-default.is-0 at c.search.ensures.within in
    rw c.at.ensures (looked_up c.args.name.now c.in-Some-default.place within
    (subst (λ text. Finds text c.search.result.1.items c.in-Some-default.place) c.as_bytes.ensures.value found).0)

pub returns-in-None-default-clause-looked_up : goal.returns-in-None-default-clause-looked_up
returns-in-None-default-clause-looked_up c =
    let missing = rw c.in-None-default.is-0 at c.search.ensures.missing in
    refused c.args.name.now c.unknown_name.result (unspelled c.args.name.now c.search.result.1.items
    (subst (λ text. RulesOut text c.search.result.1.items) c.as_bytes.ensures.value missing)) c.unknown_name.ensures
