use Rattle.std.proofs.Common.{◌≡◌, rules, refl, sym, ap, ◌∙◌, map}
use Rattle.std.specs.Char.{to_ascii_lowercase}
use Rattle.std.specs.Cmp.Lexicographic.{slice_cmp}
use Rattle.std.specs.Ordering.{nat_cmp}
use Rattle.std.proofs.lemmas.Iterator.{YieldsList-from_slice, YieldsList-from_map}
use Rattle.std.proofs.lemmas.Iterator.Search.{cmp_from_yields_List}
use Rattle.std.proofs.lemmas.Simd.{map-map}
use Rattle.num_format_locale.specs.Search.{hyphen_for_underscore}
use Rattle.num_format_locale.proofs.lookup.compare_ignoring_case.Goals as goal

pub returns : goal.returns
returns c =
    cmp_from_yields_List (λ x y. y ≡ x) _ nat_cmp _ c.cmp.ensures.ran
    (YieldsList-from_map _ to_ascii_lowercase (YieldsList-from_slice c.args.name.now (cc)) (cc) (λ x r q k. search rules))
    (λ it e. YieldsList-from_map _ (λ each. to_ascii_lowercase (hyphen_for_underscore each)) (YieldsList-from_slice c.args.text.now (cc))
    (cc) (λ x r q k. search rules))
    (λ x y. refl)
    ∙ ap (slice_cmp nat_cmp (map to_ascii_lowercase c.args.name.now)) (sym
    (map-map to_ascii_lowercase hyphen_for_underscore c.args.text.now))
