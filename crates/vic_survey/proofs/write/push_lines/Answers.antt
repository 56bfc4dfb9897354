use Rattle.vic_survey.proofs.Words.{◌∙◌, sym, codes, ◌++◌, ◌∷◌, facts_lines, on_ok_weaker, decimal, line_fault_name}
use Rattle.vic_survey.proofs.Joined.{two_lines, behind_line}
use Rattle.vic_survey.proofs.write.push_lines.Goals as goal

pub returns-in-Possible-clause-text : goal.returns-in-Possible-clause-text
returns-in-Possible-clause-text c =
    let name_is = c.as_bytes.ensures.value ∙ c.as_str.ensures.value ∙ c.name.ensures.value in
    let field_is = sym c.field.ensures.value ∙ c.in-Possible.is in
    on_ok_weaker c.push_facts.result (λ e. rw field_is (behind_line c.args.text.now.items (codes "vicinity-survey 1 " ++ c.args.survey.now.name) (codes "possible" ∷ facts_lines c.in-Possible.facts) (rw name_is at c.in_ok-push_line.ensures) e)) c.push_facts.ensures.text

pub returns-in_ok-push_refused-in-Refused-clause-text : goal.returns-in_ok-push_refused-in-Refused-clause-text
returns-in_ok-push_refused-in-Refused-clause-text c =
    let name_is = c.as_bytes.ensures.value ∙ c.as_str.ensures.value ∙ c.name.ensures.value in
    let field_is = sym c.field.ensures.value ∙ c.in-Refused.is in
    let line = codes "refused at line " ++ decimal c.in-Refused.line ++ codes ": " ++ line_fault_name c.in-Refused.fault in
    rw field_is (two_lines c.args.text.now.items (codes "vicinity-survey 1 " ++ c.args.survey.now.name) line (rw name_is at c.in_ok-push_line.ensures) (rw c.name-in-Refused.ensures.name at c.in_ok-push_refused-in-Refused.ensures))

pub returns-in_ok-push_counted-in-Impossible-clause-text : goal.returns-in_ok-push_counted-in-Impossible-clause-text
returns-in_ok-push_counted-in-Impossible-clause-text c =
    let name_is = c.as_bytes.ensures.value ∙ c.as_str.ensures.value ∙ c.name.ensures.value in
    let field_is = sym c.field.ensures.value ∙ c.in-Impossible.is in
    let line = codes "impossible at line " ++ decimal c.in-Impossible.line in
    rw field_is (two_lines c.args.text.now.items (codes "vicinity-survey 1 " ++ c.args.survey.now.name) line (rw name_is at c.in_ok-push_line.ensures) c.in_ok-push_counted-in-Impossible.ensures)
