use Rattle.vic_answer.proofs.Words.{◌≡◌, ◌++◌, ◌∷◌, ℕ, List, [], ap, sym, ◌∙◌, append-nil, append_assoc, flat_map, Finding, finding_text, findings_left}
use Rattle.vic_answer.proofs.Waiting.{Pushes-nil, Pushes-then, Pushes-longer, Pushes-handed, Pushes-same}
use Rattle.vic_answer.proofs.report_lines.push_findings.Goals as goal

-- one finding more was added
one_more : (text all : List ℕ) (left rest : List Finding) (f : Finding) → left ≡ f ∷ rest → text ++ flat_map finding_text left ≡ all → (text ++ finding_text f) ++ flat_map finding_text rest ≡ all
one_more text all left rest f is h = append_assoc text (finding_text f) (flat_map finding_text rest) ∙ ap (λ fs. text ++ flat_map finding_text fs) (sym is) ∙ h

pub loop-finding-init : goal.loop-finding-init
loop-finding-init g c = ([], Pushes-nil _ _, ap (λ s. flat_map finding_text (findings_left s)) c.into_iter-finding-iterator.ensures.into_iter_gives ∙ ap (flat_map finding_text) c.findings_in-finding-items.ensures)

pub loop-finding-preserved : goal.loop-finding-preserved
loop-finding-preserved g c =
    let h = c.loop-finding.invariant in
    (h.0 ++ finding_text c.in-Some.finding, Pushes-then h.1 (Pushes-same c.in_ok-push_text.ensures c.finding_text.ensures), one_more _ _ _ _ _ c.in-Some.ensures.steps h.2)

pub returns-in_err-push_text : goal.returns-in_err-push_text
returns-in_err-push_text g c =
    let h = c.loop-finding.invariant in
    let r = c.from_residual.ensures in
    Pushes-same (Pushes-longer _ _ r.0 (Pushes-then h.1 (Pushes-same (Pushes-handed _ r c.in_err-push_text.ensures) c.finding_text.ensures))) (one_more _ _ _ _ _ c.in-Some.ensures.steps h.2)

pub returns : goal.returns
returns g c =
    let h = c.loop-finding.invariant in
    Pushes-same h.1 (sym (append-nil h.0) ∙ ap (λ fs. h.0 ++ flat_map finding_text fs) (sym c.in-None.ensures.steps.0) ∙ h.2)
