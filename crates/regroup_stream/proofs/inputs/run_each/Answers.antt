use Rattle.std.proofs.Common.{refl}
use Rattle.regroup_stream.specs.Inputs.{RunsEach}
use Rattle.regroup_stream.proofs.InputLemmas.{RunsWhole_done, RunsWhole_stopped, RunsEach_more}
use Rattle.regroup_stream.proofs.inputs.run_each.Goals as goal

pub loop-name-init : goal.loop-name-init
loop-name-init g c = (RunsEach.none _ _, c.requires)

pub loop-name-preserved : goal.loop-name-preserved
loop-name-preserved g c = (
  RunsEach_more _ _ _ _ _ _ _ _ _ _ _ _ _ _ _ _ _ _ _ _ _ _ c.loop-name-test.true c.max-status.ensures c.if-not-goes_on.false refl
      c.loop-name.invariant.0 c.run_one-ended.ensures,
  cc,
)

pub returns-then-not-goes_on : goal.returns-then-not-goes_on
returns-then-not-goes_on g c =
    RunsWhole_stopped _ _ _ _ _ _ _ _ _ _ _ _ _ _ _ _ _ _ _ _ _ c.loop-name-test.true c.max-status.ensures c.if-not-goes_on.true refl
    c.loop-name.invariant.0 c.run_one-ended.ensures

pub returns : goal.returns
returns g c = RunsWhole_done _ _ _ _ _ _ _ _ _ _ _ _ _ c.loop-name-test.false c.loop-name.invariant.0
