use Rattle.vic_survey.proofs.Words.{codes, decimal, ◌++◌, map, mask_text, found_text, certain_line, open_line}
use Rattle.vic_survey.proofs.Joined.{facts_joined}
use Rattle.vic_survey.proofs.write.push_facts.Goals as goal

pub returns-clause-text : goal.returns-clause-text
returns-clause-text c =
    let s = c.args.facts.now in
    facts_joined c.args.text.now.items (codes "possible") (codes "answers " ++ decimal s.answers) (map certain_line s.certain) (map open_line s.«open»)
    (codes "margin " ++ decimal s.margin) (codes "weakest " ++ mask_text s.weakest) (codes "hidden " ++ found_text s.hidden) (codes "deaf " ++ found_text s.deaf)
    c.in_ok-push_line.ensures c.in_ok-push_counted.ensures (rw c.as_slice.ensures.value at c.in_ok-push_certain.ensures) (rw c.as_slice-2.ensures.value at c.in_ok-push_open.ensures)
    c.in_ok-push_counted-2.ensures c.in_ok-push_masked.ensures c.in_ok-push_found.ensures c.in_ok-push_found-2.ensures
