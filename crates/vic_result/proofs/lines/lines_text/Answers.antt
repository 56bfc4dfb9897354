use Rattle.vic_result.proofs.lines.lines_text.Goals as goal

pub returns-clause-text : goal.returns-clause-text
returns-clause-text c = record {
  findings = c.in_ok-findings.findings;
  are_findings = c.in_ok-findings.ensures;
  answer = c.answer-answer.result;
  is_answer = c.answer-answer.ensures c.args.collection.now c.in_ok-findings.ensures;
  are_lines = c.in_ok-text.ensures;
}

pub returns-clause-status : goal.returns-clause-status
returns-clause-status c = (c.answer-answer.result, c.answer-answer.ensures c.args.collection.now c.in_ok-findings.ensures, c.answer_status-status.ensures)
