use Rattle.regroup_lines.proofs.Common.{Sends, ended_by, number_text, subst, sym, ◌++◌, ◌∙◌, ◌≡◌}
use Rattle.regroup_faults.proofs.NotationLemmas.{latin_text}
use Rattle.regroup_lines.proofs.sending.send_number.Goals as goal

pub returns-then-is_latin : goal.returns-then-is_latin
returns-then-is_latin g c =
    let same : c.as_str.result.now ≡ number_text c.args.to.now c.args.number.now =
    rw (← c.to.view_is) (c.as_str.ensures.same ∙ c.write_formatted.ensures.text
    ∙ sym (latin_text c.to.inside.digits _ (sym c.is_latin.ensures ∙ c.if-is_latin.true))) in
    subst (λ t. Sends c.send_between.result (g.W.Write.contents c.args.w.now) (g.W.Write.contents c.send_between.new.w)
    (ended_by c.args.line_end (c.args.before.now ++ (t ++ c.args.after.now)))) same c.send_between.ensures
