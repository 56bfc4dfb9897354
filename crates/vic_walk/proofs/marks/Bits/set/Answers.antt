use Rattle.vic_walk.proofs.BitLaws.{set_bit}
use Rattle.vic_walk.proofs.marks.Bits.set.Goals as goal

pub returns-clause-set : goal.returns-clause-set
returns-clause-set c = rw c.self.view_is (set_bit c.args.self.now c.args.bit c.index.result.now c.requires (rw c.self.view_is at c.index.ensures))
