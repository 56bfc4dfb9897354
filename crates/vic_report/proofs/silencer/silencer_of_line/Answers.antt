use Rattle.vic_report.proofs.Words.{first_lines}
use Rattle.vic_report.proofs.Conflicts.{silenced_there}
use Rattle.vic_report.proofs.silencer.silencer_of_line.Goals as goal

pub returns : goal.returns
returns c =
    let lines = c.lines-lines.result.now in
    let w = c.in_ok-place_of.ensures.some in
    rw (← c.lines-lines.ensures.value) (silenced_there lines c.args.number _ w.0 c.silencer_at.result (first_lines _ _ c.lines-lines.ensures.log).rising w.1 w.2 c.silencer_at.ensures)

pub returns-in_err-place_of : goal.returns-in_err-place_of
returns-in_err-place_of c =
    rw (c.from_residual.ensures, ← c.lines-lines.ensures.value) (λ i x u there number heard.
    absurd (c.in_err-place_of.ensures.none (first_lines _ _ c.lines-lines.ensures.log).rising i x there number))
