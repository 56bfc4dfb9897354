use Rattle.std.proofs.Common.{arith, eq-eqb, eqb-true}
use Rattle.std.proofs.lemmas.Bool.{both_ways}
use Rattle.std.proofs.lemmas.Nat.{and_le_r}
use Rattle.vic_walk.proofs.BitLaws.{clear_bit, emptied, not_emptied}
use Rattle.vic_walk.proofs.marks.Bits.clear.Goals as goal

pub returns-clause-cleared : goal.returns-clause-cleared
returns-clause-cleared c = rw c.self.view_is (clear_bit c.args.self.now c.args.bit c.index.result.now c.requires (rw c.self.view_is at c.index.ensures))

pub returns-clause-empty : goal.returns-clause-empty
returns-clause-empty c zero = rw c.self.view_is (emptied c.args.self.now _ _ c.requires (eqb-true _ _ zero))

pub returns-clause-left : goal.returns-clause-left
returns-clause-left c some = rw c.self.view_is (not_emptied c.args.self.now _ _ c.requires (omega (arith, and_le_r)) (λ e. both_ways _ some (eq-eqb _ _ e)))
