use Rattle.std.proofs.Common.{◌++◌, ◌∙◌, ◌+◌, sym, drop, length, refl, rules}
use Rattle.num_format_int.specs.Groups.{plain}
use Rattle.std.proofs.lemmas.Bool.{both_ways}
use Rattle.num_format_parsing.specs.Parts.{BeginsWithGroup}
use Rattle.num_format_parsing.proofs.GroupsLemmas.{appends-group, lacks-group}
use Rattle.num_format_parsing.proofs.UnreadLemmas.{begins-append}
use Rattle.num_format_parsing.proofs.groups.push_group.Goals as goal

pub returns-then-not-begins_with : goal.returns-then-not-begins_with
returns-then-not-begins_with g c = λ found.
    both_ways _ (sym c.begins_with.ensures ∙ c.if-not-begins_with.true)
    (begins-append c.args.separator.now c.args.text.now (plain found.group
    ++ drop (length c.args.separator.now + c.args.count) c.args.text.now) c.requires.separator found.same)

pub returns-in_err-group : goal.returns-in_err-group
returns-in_err-group g c =
    let a = c.args in
    let none : ¬ (BeginsWithGroup a.separator.now a.count a.text.now (drop (length a.separator.now + a.count) a.text.now)) =
    lacks-group a.separator.now c.split_at.result.1.now a.count a.text.now
    (drop (length a.separator.now + a.count) a.text.now) c.split_at.ensures.back c.in_err-group.ensures in
    search rules

pub returns : goal.returns
returns g c =
    let a = c.args in
    let few = c.in_ok-group.ensures in (
      refl,
      appends-group g.A.Accumulator.bound a.separator.now c.split_at.result.1.now a.count a.text.now
          (g.A.Accumulator.number a.part.magnitude) c.in_ok-group.power c.in_ok-group.group _ c.split_at.ensures.back
          (sym c.begins_with.ensures ∙ c.if-not-begins_with.false) c.requires.room few.0 few.1 few.2 c.push_group.ensures,
    )
