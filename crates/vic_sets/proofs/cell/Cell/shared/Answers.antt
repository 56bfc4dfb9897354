use Rattle.vic_sets.proofs.Words.{◌∙◌, sym, arith, and_comm, lies_in}
use Rattle.vic_sets.proofs.CutLaws.{held_both, none_shared, cut_self}
use Rattle.vic_sets.proofs.cell.Cell.shared.Goals as goal

pub returns-then-holds-clause-both : goal.returns-then-holds-clause-both
returns-then-holds-clause-both c u = held_both c.args.self.now c.args.other.now u (sym c.holds.ensures.value ∙ c.if-holds.true)

pub returns-then-holds-2-clause-within : goal.returns-then-holds-2-clause-within
returns-then-holds-2-clause-within c = (omega arith, cut_self c.args.self.now c.holds.ensures.cell.0)

pub returns-then-holds-2-clause-both : goal.returns-then-holds-2-clause-both
returns-then-holds-2-clause-both c u = held_both c.args.other.now c.args.self.now u (sym c.holds-else-holds.ensures.value ∙ c.if-holds-2.true) ∙ and_comm (lies_in c.args.other.now u) (lies_in c.args.self.now u)

pub returns-else-holds-2-clause-none : goal.returns-else-holds-2-clause-none
returns-else-holds-2-clause-none c u = none_shared c.args.self.now c.args.other.now u (sym c.holds.ensures.value ∙ c.if-holds.false) (sym c.holds-else-holds.ensures.value ∙ c.if-holds-2.false)
