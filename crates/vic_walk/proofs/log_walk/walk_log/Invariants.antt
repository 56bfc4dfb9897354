use Rattle.vic_walk.proofs.Words.{AreBorneOut, IsWalkAt}
use Rattle.vic_log.specs.Order.{entries}
use Rattle.vic_walk.specs.Steps.{AreLogParts}
use Rattle.vic_walk.proofs.log_walk.walk_log.Given as goal

abbrev pub invariant-loop-index : goal.invariant-loop-index
invariant-loop-index l = record {
  parts : AreLogParts (entries l.lines) l.log_parts;
  walk : IsWalkAt l.log_parts.parts (entries l.lines) l.index l.walk;
  borne : AreBorneOut (entries l.lines) l.index;
}
