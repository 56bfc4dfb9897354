use Rattle.vic_survey.proofs.ValueWords.{subst}
use Rattle.vic_log.specs.Lines.{lines_of_text}
use Rattle.vic_log.specs.Log.{IsLog}
use Rattle.vic_survey.proofs.Ranges.{fault_line, impossible_line}
use Rattle.vic_survey.proofs.making.field_of.Goals as goal

pub returns-in-Err-Line-clause-valid : goal.returns-in-Err-Line-clause-valid
returns-in-Err-Line-clause-valid c = (rw c.in-Err-Line.field-0-is (fault_line (lines_of_text c.args.text.now) c.in-Err-Line.line c.in-Err-Line.fault (rw c.in-Err-Line.field-0-is at c.in-Err-Line.ensures)), c.named_once.ensures.once)

pub returns-in-Err-clause-valid : goal.returns-in-Err-clause-valid
returns-in-Err-clause-valid c =
    let lines = c.in-Ok.log.lines in
    let log = subst (IsLog c.in-Ok.log.version) c.lines-lines.ensures.value c.lines-lines.ensures.log in
    impossible_line c.in-Ok.log.version lines c.in-Err.line log (rw c.in-Err.is at c.in_ok-facts.ensures.facts)
