use Rattle.std.proofs.Common.{◌≡◌, ◌∙◌, ℕ, List, Option, Some, None, ap, subst, sym}
use Rattle.std.specs.Prelude.{unwrap_or}
use Rattle.num_format_digits.specs.Digits.{IsZero, zero_among}
use Rattle.num_format_digits.specs.Sets.{locales}
use Rattle.num_format_digits.proofs.SetLemmas.{among-contains, latin, locale-zero}
use Rattle.num_format_digits.proofs.digits.Digits.of_locale.Goals as goal

-- the zero of a locale, or that of `latn`
default : (name : List ℕ) (r : Option ℕ) → r ≡ zero_among locales name → IsZero (unwrap_or r 48)
default name None same = latin
default name (Some z) same = locale-zero z (among-contains locales name z (sym same))

pub invariant_of-result : goal.invariant_of-result
invariant_of-result c =
    let name = c.name.result.now in
    subst IsZero (sym c.unwrap_or.ensures) (default name c.zero_of-zero.result
    (c.zero_of-zero.ensures ∙ ap (λ rows. zero_among rows name) c.locales.ensures))
