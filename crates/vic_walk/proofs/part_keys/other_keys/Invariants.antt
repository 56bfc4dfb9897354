use Rattle.vic_walk.proofs.Words.{◌==◌, not, slice_index}
use Rattle.vic_walk.proofs.PartKeys.{AreKeptTo}
use Rattle.vic_walk.specs.inner.RangesTo.{AreRangesTo}
use Rattle.vic_walk.proofs.part_keys.other_keys.Given as goal

abbrev pub invariant-loop-part : goal.invariant-loop-part
invariant-loop-part l = record {
  keys : AreKeptTo l.parts (λ p. not (slice_index l.values p == l.value)) l.part l.from l.others.items;
  ranges : AreRangesTo l.from l.others.items;
}
