-- The least value of 64 bits in parentheses, worked out: its parts, and its text for a parser.
use Rattle.std.proofs.Common.{◌≡◌, refl}
use Rattle.std.specs.Prelude.{codes}
use Rattle.num_format_affixes.specs.Accounting.{IsNegative, signed_text}
use Rattle.num_format_affixes.specs.Sides.IsWithoutBlanks.{none}
use Rattle.num_format_affixes.specs.declared.parts.Parts.{Parts}

least : (p : Parts) → p.before.now ≡ codes "(" → p.inner.now ≡ codes "9,223,372,036,854,775,808" → p.after.now ≡ codes ")" →
    IsNegative (codes "-") (codes "(9,223,372,036,854,775,808)") p
least p before inner after = record {
  joined = rw (before, inner, after) refl;
  first = rw (inner, after) (none _ refl refl);
  last = rw (inner, after) (none _ refl refl);
}

least_signed : signed_text (codes "-") (codes "9,223,372,036,854,775,808") ≡ codes "-9,223,372,036,854,775,808"
least_signed = refl
