use Rattle.vic_survey.proofs.ValueWords.{arith}
use Rattle.vic_survey.proofs.Merged.{is_first_iff}
use Rattle.vic_survey.proofs.making.is_first.Goals as goal

pub returns-in-Some : goal.returns-in-Some
returns-in-Some c =
    let is = c.in-Some.ensures.cases.0 in
    let none = rw is at c.requires.first in
    rw is (is_first_iff c.in-Some.first.now c.in-Some.field-0-1.now c.args.mask.now c.eq.result (rw is at c.requires.rising) (none c.args.mask.now (omega arith)) c.eq.ensures)
