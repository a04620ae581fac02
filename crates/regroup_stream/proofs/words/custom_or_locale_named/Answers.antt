use Rattle.std.proofs.Common.{ap, drop, false, subst, sym, take-append-drop, ◌++◌, ◌∙◌, ◌≡◌}
use Rattle.std.proofs.lemmas.Bool.{false_from_ne_true}
use Rattle.std.proofs.lemmas.Slice.Eq.{bytes_eq-Decides}
use Rattle.std.specs.List.{starts_with}
use Rattle.std.specs.Prelude.{codes, nat_eq, take}
use Rattle.std.specs.Result.{result_map_both}
use Rattle.regroup_stream.specs.Words.{NamesCustomOrLocale, wrong_of}
use Rattle.regroup_stream.proofs.words.custom_or_locale_named.Goals as goal

pub returns-in-None : goal.returns-in-None
returns-in-None c =
    let word = c.args.word.now in
    let other : starts_with nat_eq word (codes "custom:") ≡ false =
    false_from_ne_true _ (λ begins. c.in-None.ensures.cases (drop 7 word) (sym (take-append-drop 7 word)
    ∙ ap (λ front. front ++ drop 7 word) (sym ((bytes_eq-Decides (codes "custom:") (take 7 word)).0 begins)))) in
    subst (λ is. NamesCustomOrLocale is word (result_map_both (λ format. format) wrong_of c.locale_named.result)) (sym other)
    c.locale_named.ensures
