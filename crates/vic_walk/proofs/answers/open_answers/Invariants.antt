use Rattle.vic_walk.proofs.Words.{AreStatesAt}
use Rattle.vic_log.specs.Order.{entries}
use Rattle.vic_log.specs.Slots.{is_open, slots_of}
use Rattle.vic_walk.specs.Answers.{AreAnswering}
use Rattle.vic_walk.proofs.answers.open_answers.Given as goal

abbrev pub invariant-loop-index : goal.invariant-loop-index
invariant-loop-index l = record {
  states : AreStatesAt l.log_parts.parts (entries l.lines) (is_open (slots_of (entries l.lines))) l.index l.open;
  found : AreAnswering (entries l.lines) l.index l.found.items;
}
