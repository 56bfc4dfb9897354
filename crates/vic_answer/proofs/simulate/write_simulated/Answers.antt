use Rattle.vic_answer.proofs.Words.{sym}
use Rattle.vic_answer.proofs.simulate.write_simulated.Goals as goal

pub returns-in-Found-OutcomeGiven-clause-written : goal.returns-in-Found-OutcomeGiven-clause-written
returns-in-Found-OutcomeGiven-clause-written g c = rw (c.in-Found-OutcomeGiven.is, c.in-Found-OutcomeGiven.field-0-is, sym c.refused_at.ensures.items) c.refuse.ensures.written

pub returns-in-Found-TooManyLines-clause-written : goal.returns-in-Found-TooManyLines-clause-written
returns-in-Found-TooManyLines-clause-written g c = rw (c.in-Found-TooManyLines.is, c.in-Found-TooManyLines.field-0-is, sym c.refusal_line.ensures.items) c.refuse-in-Found-TooManyLines.ensures.written

pub returns-clause-written : goal.returns-clause-written
returns-clause-written g c = rw (c.in-RefusedAt.is, sym c.refusal_line-in-RefusedAt.ensures.items) c.refuse-in-RefusedAt.ensures.written
