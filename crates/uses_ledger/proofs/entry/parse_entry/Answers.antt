use Rattle.std.proofs.Common.{rules, ◌≡◌, refl, subst}
use Rattle.num_format_decimal.specs.Parsing.{IsAtScaleCause}
use Rattle.uses_ledger.specs.Entry.{amount_in}
use Rattle.uses_ledger.specs.declared.entry.TheConstants.{SCALE}
use Rattle.uses_ledger.proofs.entry.parse_entry.Goals as goal

pub returns-in-Err-clause-refused : goal.returns-in-Err-clause-refused
returns-in-Err-clause-refused g c =
    let same : c.in_ok-name.amount.now ≡ amount_in c.args.line.now = search rules in
    subst (λ text. IsAtScaleCause c.args.parser.now text SCALE c.in-Err.error) same ((c.in-Err.ensures.refused c.in-Err.error).0 refl)
