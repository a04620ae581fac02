use Rattle.num_format.proofs.JsonLemmas.{buffer_in-buffer_json, format_in-format_json, locale_in-locale_json}
use Rattle.num_format.proofs.laws.json.Goals as goal

pub returns : goal.returns
returns c = record { buffer = buffer_in-buffer_json; format = format_in-format_json; locale = locale_in-locale_json }
