use Rattle.std.proofs.Common.{◌-◌, ◌∙◌, ap, drop, length, length-drop, sym, subst, take, arith}
use Rattle.std.proofs.lemmas.List.{take_rest}
use Rattle.std.proofs.lemmas.Option.{IfSome_then}
use Rattle.num_format_int.specs.Kind.{signed_number}
use Rattle.num_format_parsing.specs.Shapes.{byte_digits}
use Rattle.num_format_parsing.specs.Strict.{IsCanonical}
use Rattle.num_format_parsing.proofs.GroupingLemmas.{body-groups, shape-bounds}
use Rattle.num_format_parsing.proofs.GroupsLemmas.{count-digits}
use Rattle.num_format_parsing.proofs.CanonicalLemmas.{canonical-body}
use Rattle.num_format_parsing.proofs.groups.read_in_groups.Goals as goal

pub returns : goal.returns
returns c = IfSome_then c.read_by_byte.result c.read_by_byte.ensures (λ n read f sign separator grouping.
    let a = c.args in
    let t = a.text.now in
    let start = a.sign.len in
    let s = c.as_bytes-separator.result.now in
    let body = take (length t - start) (drop start t) in
    let sizes = c.in_ok-sizes.sizes in
    let by = c.in_ok-sizes.ensures in
    let plain = ap byte_digits c.as_bytes-separator.ensures.value ∙ c.requires.plain in
    let bounds = shape-bounds sizes by.shape in
    let many = (count-digits sizes.last sizes.size s body c.if-separator-ne1.false plain bounds.0 (let shape = by.shape
    in grind arith) read.0).0 sizes.least by.few (omega (
      arith,
      c.if-body-sizes.false,
      ap length (take_rest t start),
      length-drop start t,
    )) in
    let grouped = body-groups a.grouping sizes by s body plain read.0 many in
    subst (λ n. IsCanonical f t (signed_number a.sign.is_negative n)) (sym read.1)
    (canonical-body f t s body a.grouping a.sign.is_negative start (take_rest t start) sign (c.as_bytes-separator.ensures.value
    ∙ separator) grouping (c.begins_with_digit.ensures.0 c.if-not-begins_with_digit.false) grouped))

pub returns-then-separator-ne1 : goal.returns-then-separator-ne1
returns-then-separator-ne1 c = IfSome_then c.read_by_bytes.result c.read_by_bytes.ensures (λ n read f sign separator grouping.
    let a = c.args in
    let t = a.text.now in
    let start = a.sign.len in
    let s = c.as_bytes-separator.result.now in
    let body = take (length t - start) (drop start t) in
    let plain = ap byte_digits c.as_bytes-separator.ensures.value ∙ c.requires.plain in
    let grouped = body-groups a.grouping c.in_ok-sizes.sizes c.in_ok-sizes.ensures s body plain read.1 read.3 in
    subst (λ n. IsCanonical f t (signed_number a.sign.is_negative n)) (sym read.2)
    (canonical-body f t s body a.grouping a.sign.is_negative start (take_rest t start) sign (c.as_bytes-separator.ensures.value
    ∙ separator) grouping read.0 grouped))
