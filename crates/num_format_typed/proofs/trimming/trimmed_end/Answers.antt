use Rattle.std.proofs.Common.{◌≡◌, true, false, rules, arith}
use Rattle.std.specs.Str.{chars}
use Rattle.num_format_typed.specs.Classes.{is_of}
use Rattle.num_format_typed.proofs.RewritingLemmas.{end-passes, end-stops}
use Rattle.num_format_typed.proofs.trimming.trimmed_end.Goals as goal

pub returns-then-not-has-clause-value : goal.returns-then-not-has-clause-value
returns-then-not-has-clause-value c =
    let fails : is_of c.args.class c.in-Some.c ≡ false = cc in
    end-stops (is_of c.args.class) (chars c.args.text.now) (chars c.loop-rest.left.now)
    (chars c.in-Some.rest.now) c.loop-rest.left.now c.in-Some.c
    c.loop-rest.invariant.1 c.in-Some.ensures.parts.0 fails c.split_last.ensures.whole

pub loop-rest-preserved : goal.loop-rest-preserved
loop-rest-preserved c =
    let passes : is_of c.args.class c.in-Some.c ≡ true = cc in (
      search rules,
      end-passes (is_of c.args.class) (chars c.args.text.now) (chars c.loop-rest.left.now)
          (chars c.in-Some.rest.now) c.in-Some.c c.loop-rest.invariant.1 c.in-Some.ensures.parts.0 passes,
      omega (arith, c.in-Some.ensures.shorter, c.loop-rest.invariant.2),
    )
