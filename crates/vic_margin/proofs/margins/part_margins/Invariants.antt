use Rattle.vic_margin.proofs.Words.{IsTallyAt}
use Rattle.vic_log.specs.Order.{entries}
use Rattle.vic_margin.proofs.margins.part_margins.Given as goal

abbrev pub invariant-loop-index : goal.invariant-loop-index
invariant-loop-index l = IsTallyAt l.fn.log_parts.parts (entries l.lines) l.index l.tally
