use Rattle.std.proofs.Common.{◌≡◌, rules}
use Rattle.num_format.specs.Json.{locale_named}
use Rattle.num_format.proofs.JsonLemmas.{locale_named_is}
use Rattle.num_format.proofs.json.locale_from_value.Goals as goal

pub returns : goal.returns
returns c =
    let looked_up = c.from_variant_name.ensures in
    let same : c.from_variant_name.result ≡ locale_named c.in_ok-text.text.now =
    locale_named_is _ _ looked_up.found looked_up.within looked_up.named in
    search rules
