use Rattle.std.proofs.Common.{◌≡◌, ℕ, ◌+◌, ◌<◌, ◌∙◌, length, true, false, List, [], Some, ap, arith, drop, get_or, sym}
use Rattle.std.specs.Prelude.{bytes_eq, if◌then◌else◌, map}
use Rattle.std.proofs.lemmas.Bool.{cond-true, cond-false}
use Rattle.std.proofs.lemmas.List.{drop_more, get_or-map, length-map}
use Rattle.num_format_digits.specs.Digits.{zero_among}
use Rattle.num_format_digits.proofs.sets.zero_of.Goals as goal

-- one more row
step : (rows : List (List ℕ × ℕ)) (name : List ℕ) (i : ℕ) → i < length rows → zero_among (drop i rows) name
    ≡ (if bytes_eq (get_or rows i ([], 0)).0 name then Some (get_or rows i ([], 0)).1 else zero_among (drop (i + 1) rows) name)
step rows name i inside = ap (λ rs. zero_among rs name) (drop_more rows i ([], 0) inside)

pub returns-then-eq : goal.returns-then-eq
returns-then-eq c =
    let i = c.loop-place.place in
    let name = c.args.name.now in
    let rows = map (λ r. (r.0.now, r.1)) c.args.rows.now in
    let at = get_or-map {Y = List ℕ × ℕ} (λ r. (r.0.now, r.1)) c.args.rows.now i _ ([], 0) (omega arith) in
    let yes : bytes_eq (get_or rows i ([], 0)).0 name ≡ true = ap (λ r. bytes_eq r.0 name) at ∙ sym c.eq.ensures ∙ c.if-eq.true in
    ap (λ r. Some r.1) (sym at)
    ∙ sym (cond-true (bytes_eq (get_or rows i ([], 0)).0 name) (Some (get_or rows i ([], 0)).1) (zero_among (drop (i + 1) rows) name) yes)
    ∙ sym (step rows name i (omega (arith, length-map {B = List ℕ × ℕ} c.args.rows.now (λ r. (r.0.now, r.1)))))
    ∙ sym c.loop-place.invariant

pub loop-place-preserved : goal.loop-place-preserved
loop-place-preserved c =
    let i = c.loop-place.place in
    let name = c.args.name.now in
    let rows = map (λ r. (r.0.now, r.1)) c.args.rows.now in
    let at = get_or-map {Y = List ℕ × ℕ} (λ r. (r.0.now, r.1)) c.args.rows.now i _ ([], 0) (omega arith) in
    let no : bytes_eq (get_or rows i ([], 0)).0 name ≡ false = ap (λ r. bytes_eq r.0 name) at ∙ sym c.eq.ensures ∙ c.if-eq.false in
    c.loop-place.invariant
    ∙ step rows name i (omega (arith, length-map {B = List ℕ × ℕ} c.args.rows.now (λ r. (r.0.now, r.1))))
    ∙ cond-false (bytes_eq (get_or rows i ([], 0)).0 name) (Some (get_or rows i ([], 0)).1) (zero_among (drop (i + 1) rows) name) no
