use Rattle.std.proofs.Common.{◌≡◌, ◌<◌, ◌≤◌, slice_index_or, arith, rules}
use Rattle.std.proofs.lemmas.Bool.Decides.{nat_tests}
use Rattle.num_format_c.proofs.TextLemmas.{one_byte, two_bytes, three_bytes}
use Rattle.num_format_c.proofs.format.has_short_text.Goals as goal

pub returns-then-len-le1 : goal.returns-then-len-le1
returns-then-len-le1 c = λ test.
    let bs = c.args.bytes.now in
    let first : slice_index_or bs 0 0 < 0x80 = grind (arith, nat_tests, test) in
    let text = one_byte bs c.args.len (search rules) (search rules) first in
    search (rules, text)

pub returns-then-len-eq3 : goal.returns-then-len-eq3
returns-then-len-eq3 c = λ test.
    let bs = c.args.bytes.now in
    let first : (0xE1 ≤ slice_index_or bs 0 0) × (slice_index_or bs 0 0 ≤ 0xEC) = grind (arith, nat_tests, test) in
    let second : (0x80 ≤ slice_index_or bs 1 0) × (slice_index_or bs 1 0 ≤ 0xBF) = grind (arith, nat_tests, c.continues.ensures, test) in
    let third : (0x80 ≤ slice_index_or bs 2 0) × (slice_index_or bs 2 0 ≤ 0xBF) =
    grind (arith, nat_tests, c.continues-then-len-eq3.ensures, test) in
    let text = three_bytes bs (search rules) first second third in
    search (rules, text)

pub returns-else-len-eq3 : goal.returns-else-len-eq3
returns-else-len-eq3 c = λ test.
    let bs = c.args.bytes.now in
    let two : c.args.len ≡ 2 = grind (arith, nat_tests, test) in
    let first : (0xC2 ≤ slice_index_or bs 0 0) × (slice_index_or bs 0 0 ≤ 0xDF) = grind (arith, nat_tests, test) in
    let second : (0x80 ≤ slice_index_or bs 1 0) × (slice_index_or bs 1 0 ≤ 0xBF) =
    grind (arith, nat_tests, c.continues-else-len-eq3.ensures, test) in
    let text = two_bytes bs (search rules) first second in
    search (rules, text, two)
