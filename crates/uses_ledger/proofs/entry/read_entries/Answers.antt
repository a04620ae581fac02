use Rattle.std.proofs.Common.{◌≡◌, [], ◌∷◌, ◌++◌, subst, arith, rules}
use Rattle.std.proofs.lemmas.Grind.{common_steps}
use Rattle.std.proofs.lemmas.Iterator.Consumers.{YieldsList-end, YieldsList-so_far, YieldsList-turn}
use Rattle.std.proofs.lemmas.Iterator.Splits.{YieldsList-from_lines}
use Rattle.std.proofs.lemmas.List.{map-append}
use Rattle.std.specs.List.{AllZip}
use Rattle.uses_ledger.specs.Entry.{IsLineOf, Refuses, ambiguous, at_line, no_memory}
use Rattle.uses_ledger.proofs.EntryLemmas.{all_zip_push, one_scale, split_at}
use Rattle.uses_ledger.proofs.entry.read_entries.Goals as goal

pub returns-in-Err-clause-refused : goal.returns-in-Err-clause-refused
returns-in-Err-clause-refused g c =
    let road = YieldsList-from_lines c.args.text.now (cc) in
    let t = YieldsList-turn road c.loop-line.yielded _ c.loop-line.yielded_by _ _ c.in-Some.line c.in-Some.is c.next.ensures.steps in
    let so_far = YieldsList-so_far road c.loop-line.yielded _ c.loop-line.yielded_by in
    at_line _ _ c.in-Some.line.now c.loop-line.entries.items _ (search rules) (split_at _ _ _ _ so_far t.0 t.1) c.loop-line.invariant
    (subst (λ f. Refuses f c.in-Some.line.now c.in-Err.error) c.in-Ok.ensures.0 c.in-Err.ensures.refused)

pub returns-in_default-clause-refused : goal.returns-in_default-clause-refused
returns-in_default-clause-refused g c = ambiguous (search rules)

pub returns-then-is_err-clause-refused : goal.returns-then-is_err-clause-refused
returns-then-is_err-clause-refused g c =
    let road = YieldsList-from_lines c.args.text.now (cc) in
    let t = YieldsList-turn road c.loop-line.yielded _ c.loop-line.yielded_by _ _ c.in-Some.line c.in-Some.is c.next.ensures.steps in
    let so_far = YieldsList-so_far road c.loop-line.yielded _ c.loop-line.yielded_by in
    no_memory _ _ c.in-Some.line.now _ (search rules) (split_at _ _ _ _ so_far t.0 t.1)
    (all_zip_push (IsLineOf (g.F.Format.answers c.args.format.now)) _ _ _ _ c.loop-line.invariant
    (subst (λ f. IsLineOf f c.in-Some.line.now c.in-Ok-parse_entry.entry) c.in-Ok.ensures.0 c.in-Ok-parse_entry.ensures.entry))

pub loop-line-preserved : goal.loop-line-preserved
loop-line-preserved g c =
    let pushed : c.push.new.self.items ≡ c.loop-line.entries.items ++ (c.in-Ok-parse_entry.entry ∷ []) = grind (arith, common_steps) in
    rw (map-append, pushed) (all_zip_push (IsLineOf (g.F.Format.answers c.args.format.now)) _ _ _ _ c.loop-line.invariant
    (subst (λ f. IsLineOf f c.in-Some.line.now c.in-Ok-parse_entry.entry) c.in-Ok.ensures.0 c.in-Ok-parse_entry.ensures.entry))

pub returns-clause-entries : goal.returns-clause-entries
returns-clause-entries g c =
    let t = YieldsList-end (YieldsList-from_lines c.args.text.now (cc)) c.loop-line.yielded _ c.loop-line.yielded_by _ _ c.in-None.is
    c.next.ensures.steps in
    subst (λ ls. AllZip (IsLineOf (g.F.Format.answers c.args.format.now)) ls c.loop-line.entries.items) t.0 c.loop-line.invariant

pub returns-clause-one_scale : goal.returns-clause-one_scale
returns-clause-one_scale g c = one_scale (g.F.Format.answers c.args.format.now) _ _ c.loop-line.invariant
