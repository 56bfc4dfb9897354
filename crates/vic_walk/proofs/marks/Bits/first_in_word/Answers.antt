use Rattle.vic_walk.proofs.BitLaws.{first_fits, first_here, none_ahead}
use Rattle.vic_walk.proofs.marks.Bits.first_in_word.Goals as goal

pub returns-then-ahead-eq0-clause-none : goal.returns-then-ahead-eq0-clause-none
returns-then-ahead-eq0-clause-none c = none_ahead c.args.self.now c.args.from c.word.result c.word.ensures.word c.if-ahead-eq0.true

pub overflow_add-result : goal.overflow_add-result
overflow_add-result c = record { fits = first_fits c.args.from c.word.result c.word.type_inv c.ranges.from.fits c.if-ahead-eq0.false }

pub returns-clause-first : goal.returns-clause-first
returns-clause-first c = first_here c.args.self.now c.args.from c.word.result c.word.ensures.word c.word.type_inv c.if-ahead-eq0.false
