use Rattle.std.proofs.Common.{◌≡◌, ℕ, ◌≤◌, ◌++◌, ◌∙◌, List, length, ap, sym, arith}
use Rattle.std.proofs.lemmas.Bool.Decides.{nat_tests}
use Rattle.num_format_text.specs.declared.grouping.Grouping.{Grouping}
use Rattle.num_format_text.specs.declared.grouping.Sizes.{Sizes}
use Rattle.num_format_text.specs.Separators.{GroupsBy, separates}
use Rattle.num_format_int.specs.Digits.{digits}
use Rattle.num_format_int.specs.Grouped.{grouped}
use Rattle.num_format_int.specs.Groups.{plain, IsGroupedBefore}
use Rattle.num_format_int.proofs.DigitLemmas.{length-digits-gt, length-digits-le}
use Rattle.num_format_int.proofs.GroupedLemmas.{grouped-by, grouped-empty, grouped-few, grouped-none}
use Rattle.num_format_int.proofs.GroupLemmas.{groups-by, last_group-by}
use Rattle.num_format_int.proofs.to_formatted_str.put_long_body.Goals as goal
use Rattle.num_format_int.proofs.to_formatted_str.put_long_body.Goals.{else-sizes-gt4-via-then-sizes-gt4+else-n-lt-FIVE_DIGITS}
use Rattle.num_format_int.proofs.to_formatted_str.put_long_body.Goals.{else-sizes-gt4-via-else-sizes-gt4}

put_plainly : (g k : Grouping) (s ds old new : List ℕ) → k ≡ g → grouped k s ds ≡ plain ds → new ≡ plain ds ++ old
    → new ≡ grouped g s ds ++ old
put_plainly g k s ds old new same alone e = e ∙ ap (λ t. t ++ old) (sym alone ∙ ap (λ x. grouped x s ds) same)

put_grouped : (g k : Grouping) (sizes : Sizes) (s t ds old new : List ℕ) → GroupsBy k sizes → k ≡ g → s ≡ t → sizes.least ≤ length ds →
    IsGroupedBefore sizes.last sizes.size s ds old new → new ≡ grouped g t ds ++ old
put_grouped g k sizes s t ds old new by same printed many before =
    before (separates sizes (length ds)) (last_group-by sizes (length ds) many) (groups-by sizes by.shape (length ds))
    ∙ ap (λ x. x ++ old) (sym (grouped-by k sizes by s ds) ∙ ap (λ x. grouped x s ds) same ∙ ap (λ x. grouped g x ds) printed)

pub returns-in_default-clause-text : goal.returns-in_default-clause-text
returns-in_default-clause-text g c =
    let format = g.F.Format.answers c.args.format.now in
    let ds = digits c.args.n in
    put_plainly format.grouping c.grouping.result format.separator ds (g.B.PutFront.held c.args.buffer.now)
    (g.B.PutFront.held c.put_plain-in_default.new.buffer) c.grouping.ensures
    (grouped-none c.grouping.result c.in_default.ensures format.separator ds) c.put_plain-in_default.ensures

pub returns-then-is_empty-clause-text : goal.returns-then-is_empty-clause-text
returns-then-is_empty-clause-text g c =
    let format = g.F.Format.answers c.args.format.now in
    let none : length c.into_str-separator.result.now ≡ 0 = grind (arith, nat_tests, c.is_empty.ensures, c.if-is_empty.true) in
    c.put_plain.ensures
    ∙ ap (λ t. t ++ (g.B.PutFront.held c.args.buffer.now)) (sym (grouped-empty format.grouping format.separator (digits c.args.n)
    (ap length (sym (c.into_str-separator.ensures.same ∙ c.separator.ensures)) ∙ none)))

pub put_first_group-requires-clause-fits : goal.put_first_group-requires-clause-fits
put_first_group-requires-clause-fits g c = omega (arith, c.requires.fits, length-digits-gt 3 c.args.n c.requires.many)

pub returns-then-n-lt-FIVE_DIGITS-clause-text : goal.returns-then-n-lt-FIVE_DIGITS-clause-text
returns-then-n-lt-FIVE_DIGITS-clause-text g c =
    let format = g.F.Format.answers c.args.format.now in
    let ds = digits c.args.n in
    let few = length-digits-le 4 c.args.n (omega arith) c.if-n-lt-FIVE_DIGITS.true in
    put_plainly format.grouping c.grouping.result format.separator ds (g.B.PutFront.held c.args.buffer.now)
    (g.B.PutFront.held c.put_first_group.new.buffer) c.grouping.ensures
    (grouped-few c.grouping.result c.in-Some.sizes c.in-Some.ensures format.separator ds (omega (arith, few, c.if-sizes-gt4.true)))
    c.put_first_group.ensures

pub returns-clause-text : goal.returns-clause-text
returns-clause-text g c =
    let format = g.F.Format.answers c.args.format.now in
    let ds = digits c.args.n in
    let by = c.in-Some.ensures in
    let many : c.in-Some.sizes.least ≤ length ds = elim c.else-sizes-gt4.branch [
      | else-sizes-gt4-via-then-sizes-gt4+else-n-lt-FIVE_DIGITS w ↦ omega (
        arith,
        by.few,
        length-digits-gt 4 c.args.n w.if-n-lt-FIVE_DIGITS.false,
      )
      | else-sizes-gt4-via-else-sizes-gt4 w ↦ omega (arith, w.if-sizes-gt4.false, length-digits-gt 3 c.args.n c.requires.many)
    ] in
    put_grouped format.grouping c.grouping.result c.in-Some.sizes c.into_str-separator.result.now format.separator ds
    (g.B.PutFront.held c.args.buffer.now) (g.B.PutFront.held c.put_by_sizes.new.buffer)
    by c.grouping.ensures (c.into_str-separator.ensures.same ∙ c.separator.ensures) many c.put_by_sizes.ensures
