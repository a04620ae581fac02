use Rattle.std.proofs.Common.{◌≡◌, ◌<◌, ◌≤◌, ◌∙◌, length, arith, sym}
use Rattle.std.proofs.lemmas.Bool.Decides.{nat_tests}
use Rattle.num_format_int.proofs.GroupedLemmas.{grouped-empty, grouped-none}
use Rattle.num_format_parsing.specs.Shapes.{byte_digits}
use Rattle.num_format_parsing.proofs.GroupingLemmas.{body-groups, lacks-digits, lacks-groups, lacks-separator}
use Rattle.num_format_parsing.proofs.groups.read_grouped.Goals as goal

pub returns-then-is_empty-clause-none : goal.returns-then-is_empty-clause-none
returns-then-is_empty-clause-none g c = λ zero.
    let a = c.args in
    let empty = sym c.is_empty.ensures ∙ c.if-is_empty.true in
    let none : length a.separator.now ≡ 0 = grind (arith, nat_tests, empty) in
    lacks-separator a.grouping a.separator.now a.text.now a.first.digit_count c.requires.begin
    (grouped-empty a.grouping a.separator.now (byte_digits a.text.now) none)

pub returns-in_default-clause-none : goal.returns-in_default-clause-none
returns-in_default-clause-none g c = λ zero.
    let a = c.args in
    lacks-separator a.grouping a.separator.now a.text.now a.first.digit_count c.requires.begin
    (grouped-none a.grouping c.in_default.ensures a.separator.now (byte_digits a.text.now))

pub returns-in_default-read_by_sizes-clause-none :
    goal.returns-in_default-read_by_sizes-clause-none
returns-in_default-read_by_sizes-clause-none g c = λ zero.
    let a = c.args in
    lacks-groups a.grouping a.separator.now a.text.now a.first.digit_count c.requires.begin c.in-Some.sizes c.in-Some.ensures
    c.in_default-read_by_sizes.ensures

pub returns-then-whole-sizes-clause-none : goal.returns-then-whole-sizes-clause-none
returns-then-whole-sizes-clause-none g c = λ zero.
    let a = c.args in
    let few : length (byte_digits a.text.now) < c.in-Some.sizes.least =
    omega (arith, c.in-Some-read_by_sizes.ensures.1.digit_count, c.if-whole-sizes.true) in
    lacks-digits a.grouping a.separator.now a.text.now a.first.digit_count c.requires.begin c.in-Some.sizes c.in-Some.ensures few

pub returns-clause-some : goal.returns-clause-some
returns-clause-some g c = λ some.
    let a = c.args in
    let read = c.in-Some-read_by_sizes.ensures in
    let many : c.in-Some.sizes.least ≤ length (byte_digits a.text.now) = omega (arith, read.1.digit_count, c.if-whole-sizes.false) in
    (body-groups a.grouping c.in-Some.sizes c.in-Some.ensures a.separator.now a.text.now c.requires.plain read.0 many, read.1)
