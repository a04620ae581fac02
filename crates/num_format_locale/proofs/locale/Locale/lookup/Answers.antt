use Rattle.std.proofs.Common.{◌≡◌, ℕ, ◌<◌, ◌∙◌, ap, sym, subst, take, inl, inr, rules}
use Rattle.num_format_cldr.specs.declared.TheConstants.{LEN}
use Rattle.num_format_locale.specs.Lookup.{IsLongestMatch, IsPosix, Matches, language_of}
use Rattle.num_format_locale.specs.Names.{name_of}
use Rattle.num_format_locale.specs.Search.{hyphened}
use Rattle.num_format_locale.proofs.LookupLemmas.{looked_up, looked_up_posix, neither_is_posix, not_found}
use Rattle.num_format_locale.proofs.TagLemmas.{name_looked_up}
use Rattle.num_format_locale.proofs.locale.Locale.lookup.Goals as goal
use Rattle.num_format_locale.proofs.locale.Locale.lookup.Goals.{then-eq_ignore_ascii_case-via-then-eq_ignore_ascii_case}
use Rattle.num_format_locale.proofs.locale.Locale.lookup.Goals.{then-eq_ignore_ascii_case-via-else-eq_ignore_ascii_case+then-eq_ignore_ascii_case-2}

pub returns-then-eq_ignore_ascii_case : goal.returns-then-eq_ignore_ascii_case
returns-then-eq_ignore_ascii_case c =
    let head : c.language-language.result.now ≡ take 15 (language_of c.args.tag.now) =
    c.language-language.ensures ∙ ap (λ t. take 15 (language_of t)) c.as_bytes-bytes.ensures.value in
    looked_up_posix c.args.tag.now (subst IsPosix head (
    elim c.then-eq_ignore_ascii_case.branch [
      | then-eq_ignore_ascii_case-via-then-eq_ignore_ascii_case w ↦ inl (c.eq_ignore_ascii_case.ensures.test.0 (search rules))
      | then-eq_ignore_ascii_case-via-else-eq_ignore_ascii_case+then-eq_ignore_ascii_case-2 w
          ↦ inr (w.eq_ignore_ascii_case-else-eq_ignore_ascii_case.ensures.test.0 (search rules))
    ]))

pub returns-in-Some : goal.returns-in-Some
returns-in-Some c =
    rw c.at.ensures (name_looked_up c.args.tag.now c.in-Some.place c.in-Some.ensures.within
    (sym (ap hyphened c.as_bytes-bytes.ensures.value) ∙ c.in-Some.ensures.found))

pub returns-in_err-place : goal.returns-in_err-place
returns-in_err-place c =
    let head : c.language-language.result.now ≡ take 15 (language_of c.args.tag.now) =
    c.language-language.ensures ∙ ap (λ t. take 15 (language_of t)) c.as_bytes-bytes.ensures.value in
    let other : ¬ IsPosix c.language-language.result.now =
    neither_is_posix c.language-language.result.now c.eq_ignore_ascii_case.result
    c.eq_ignore_ascii_case-else-eq_ignore_ascii_case.result (search rules) (search rules)
    c.eq_ignore_ascii_case.ensures.test c.eq_ignore_ascii_case-else-eq_ignore_ascii_case.ensures.test in
    rw c.from_residual.ensures (not_found c.args.tag.now (subst (λ t. ¬ IsPosix t) head other)
    (subst (λ t. (place : ℕ) → place < LEN → ¬ Matches (hyphened t) (name_of place)) head c.in_err-place.ensures.missing))

pub returns : goal.returns
returns c =
    let head : c.language-language.result.now ≡ take 15 (language_of c.args.tag.now) =
    c.language-language.ensures ∙ ap (λ t. take 15 (language_of t)) c.as_bytes-bytes.ensures.value in
    let other : ¬ IsPosix c.language-language.result.now =
    neither_is_posix c.language-language.result.now c.eq_ignore_ascii_case.result
    c.eq_ignore_ascii_case-else-eq_ignore_ascii_case.result (search rules) (search rules)
    c.eq_ignore_ascii_case.ensures.test c.eq_ignore_ascii_case-else-eq_ignore_ascii_case.ensures.test in
    rw c.at-2.ensures (looked_up c.args.tag.now (subst (λ t. ¬ IsPosix t) head other) c.in_ok-place.place
    (subst (λ t. IsLongestMatch (hyphened t) c.in_ok-place.place) head c.in_ok-place.ensures.matched))
