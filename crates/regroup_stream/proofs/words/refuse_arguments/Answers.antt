use Rattle.std.proofs.Common.{[], arith, inr, refl, subst, ◌∙◌}
use Rattle.std.proofs.KnownBytes.{Appends-nil}
use Rattle.regroup_stream.specs.Ending.{SendsMessage}
use Rattle.regroup_stream.specs.Words.{arguments_message}
use Rattle.regroup_stream.proofs.words.refuse_arguments.Goals as goal

pub returns-in-Ok : goal.returns-in-Ok
returns-in-Ok g c =
    subst (λ message. SendsMessage message 2 c.send.result (g.E.Write.contents c.args.err.now) (g.E.Write.contents c.send.new.err))
    (c.as_str.ensures.value ∙ c.in-Ok.ensures) c.send.ensures

pub returns-in-Err : goal.returns-in-Err
returns-in-Err g c = inr (
  refl,
  record {
    rest = arguments_message c.args.cause.now;
    unfinished = omega arith;
    received = record { received = []; split = refl; appended = Appends-nil _ };
  },
)
