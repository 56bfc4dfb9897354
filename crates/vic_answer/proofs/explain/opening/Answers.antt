use Rattle.vic_answer.proofs.Words.{◌≡◌, List, ℕ, ◌++◌, Some, length, ap, sym, ◌∙◌, append_assoc, check_text, listed_text, Answered, Explanation, answer_of, population_of, population_line, explained_text}
use Rattle.vic_answer.specs.ExplainText.{uids_of}
use Rattle.vic_answer.proofs.explain.opening.Goals as goal

with_population : (e : Answered Explanation) (us text : List ℕ) → population_of e ≡ Some us → text ≡ check_text (answer_of (λ x. x.verdict) e) ++ population_line (length us) → text ++ listed_text (uids_of e) ≡ explained_text e
with_population e us text is told = rw (told, is) (append_assoc (check_text (answer_of (λ x. x.verdict) e)) (population_line (length us)) (listed_text us))

pub returns-in-Some : goal.returns-in-Some
returns-in-Some c =
    let line = c.check_text-text.ensures.items ∙ ap check_text c.answer_of.ensures in
    with_population c.args.explained.now c.in-Some.uids.now c.push_size.new.text.items (sym c.in-Some.ensures) (c.push_size.ensures ∙ ap (λ xs. xs ++ population_line (length c.in-Some.uids.now)) line)
