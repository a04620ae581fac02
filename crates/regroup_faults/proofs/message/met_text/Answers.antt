use Rattle.std.proofs.Common.{List, append_assoc, ◌++◌, ◌∙◌, ◌≡◌, ℕ}
use Rattle.std.specs.Prelude.{codes}
use Rattle.regroup_faults.proofs.message.met_text.Goals as goal

-- seven texts, one after the other
seven : (a b c d e f g : List ℕ) → ((((((a ++ b) ++ c) ++ d) ++ e) ++ f) ++ g) ≡ (a ++ (b ++ (c ++ (d ++ (e ++ (f ++ g))))))
seven a b c d e f g =
    append_assoc (((((a ++ b) ++ c) ++ d) ++ e)) f g
    ∙ append_assoc ((((a ++ b) ++ c) ++ d)) e (f ++ g)
    ∙ append_assoc (((a ++ b) ++ c)) d (e ++ (f ++ g))
    ∙ append_assoc ((a ++ b)) c (d ++ (e ++ (f ++ g)))
    ∙ append_assoc a b (c ++ (d ++ (e ++ (f ++ g))))

pub returns : goal.returns
returns c = rw (
  c.push_str-7.ensures.bytes,
  c.push_str-6.ensures.bytes,
  c.push_str-5.ensures.bytes,
  c.push_str-4.ensures.bytes,
  c.push_str-3.ensures.bytes,
  c.push_str-2.ensures.bytes,
  c.push_str.ensures.bytes,
  c.new-text.ensures,
) (seven (codes ": not a number at byte ") c.args.at.now (codes ": ") c.args.met.now (codes ", where FROM has ") c.args.wanted.now
    (codes ": see --typed"))
