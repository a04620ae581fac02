use Rattle.std.proofs.Common.{Ok, ap, subst, sym, ◌∙◌}
use Rattle.std.specs.Fmt.{option_append}
use Rattle.std.specs.Io.KnownBytes.{Keeps}
use Rattle.regroup_stream.specs.Names.{RunsNamed}
use Rattle.regroup_stream.proofs.NameLemmas.{read-again}
use Rattle.regroup_stream.proofs.names.run_named.Goals as goal

pub returns-in_default : goal.returns-in_default
returns-in_default g c = RunsNamed.unnamed _ _ _ _ _ _ (sym c.in_default.ensures) c.run.ensures

pub returns-in_default-vec : goal.returns-in_default-vec
returns-in_default-vec g c = RunsNamed.no_memory _ _ _ c.in-Some.fields.now (sym c.in-Some.ensures)

pub returns-in_default-read_header : goal.returns-in_default-read_header
returns-in_default-read_header g c =
    RunsNamed.unread _ _ _ _ _ _ _ c.in-Some.fields.now c.failure.result (sym c.in-Some.ensures) c.finish.ensures

pub returns-in-Ok-Ok : goal.returns-in-Ok-Ok
returns-in-Ok-Ok g c =
    let header = rw c.new-input.ensures at c.in-Ok-read_header.ensures.header in
    let read = rw c.new-input.ensures at c.in-Ok-read_header.ensures.read in
    let again = ap (λ first. option_append first (g.R.Read.remaining c.read_header.new.r.reader)) c.chain.ensures.bytes in
    let kept = subst (Keeps (g.R.Read.remaining c.args.input)) (sym (c.chain-input.ensures.bytes ∙ again)) (read-again _ _ _ read) in
    RunsNamed.named _ _ _ _ _ _ _ c.in-Some.fields.now c.in-Ok-read_header.header.text.now _ (sym c.in-Some.ensures) header
    (sym (rw c.in-Ok-Ok.field-0-is at c.in-Ok-Ok.ensures) ∙ ap Ok (sym c.deref.ensures.value)) kept c.run-in-Ok-Ok.ensures

pub returns-in-Ok-Err : goal.returns-in-Ok-Err
returns-in-Ok-Err g c =
    let header = rw c.new-input.ensures at c.in-Ok-read_header.ensures.header in
    RunsNamed.misnamed _ _ _ _ _ _ _ c.in-Some.fields.now c.in-Ok-read_header.header.text.now _ (sym c.in-Some.ensures) header
    (sym (rw c.in-Ok-Err.field-0-is at c.in-Ok-Err.ensures))
    (rw (c.as_str.ensures.value, c.misnamed_message-message.ensures) at c.send.ensures)

pub returns : goal.returns
returns g c = RunsNamed.no_memory _ _ _ c.in-Some.fields.now (sym c.in-Some.ensures)
