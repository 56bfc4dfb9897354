use Rattle.vic_log.proofs.Words.{arith}
use Rattle.vic_log.proofs.Cautious.{lines_within}
use Rattle.vic_log.proofs.log.Log.answers.Goals as goal

pub overflow_cast-result : goal.overflow_cast-result
overflow_cast-result c = let l = c.self.invariant.0.is_log in omega (arith, lines_within 1 c.self.inside.lines.items l.rising, l.limit, c.answers.ensures.few, c.deref.ensures.len, c.deref.ensures.value)

pub returns-clause-limit : goal.returns-clause-limit
returns-clause-limit c = let l = c.self.invariant.0.is_log in omega (arith, lines_within 1 c.self.inside.lines.items l.rising, l.limit, c.answers.ensures.few, c.deref.ensures.len, c.deref.ensures.value)
