use Rattle.vic_answer.proofs.Standing.{ends_written, found_text}
use Rattle.vic_answer.proofs.run.run_judged.Goals as goal

pub returns-clause-answer : goal.returns-clause-answer
returns-clause-answer g c = ends_written _ _ c.in_ok-read.read c.in_ok-read.ensures.reading (λ text h. found_text g.J.Judgement.IsOf g.J.HasVerdict.verdict_of g.J.LogCommand.text_of c.in_ok-answered.answered text (c.in_ok-answered.ensures text h)) _ c.write_answered.ensures.status c.write_answered.ensures.written.accepts c.write_answered.ensures.written.fault

pub returns-clause-answer_revealed : goal.returns-clause-answer_revealed
returns-clause-answer_revealed g c = ends_written _ _ c.in_ok-read.read c.in_ok-read.ensures.reading_revealed (λ text h. found_text g.J.Judgement.IsOf g.J.HasVerdict.verdict_of g.J.LogCommand.text_of c.in_ok-answered.answered text (c.in_ok-answered.ensures text h)) _ c.write_answered.ensures.status c.write_answered.ensures.written.accepts_revealed c.write_answered.ensures.written.fault
