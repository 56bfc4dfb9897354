use Rattle.vic_survey.proofs.Words.{◌↔◌, BitMask, length}
use Rattle.std.specs.List.{AllPairs, Contains}
use Rattle.vic_tree.specs.OpenMasks.{ComesBefore}
use Rattle.vic_survey.proofs.making.from_mask.Given as goal

abbrev pub invariant-loop-first : goal.invariant-loop-first
invariant-loop-first l = record {
  rising : AllPairs ComesBefore l.ahead;
  same : (m : BitMask) → ¬ (ComesBefore m l.mask) → Contains l.ahead m ↔ Contains l.fn.masks m;
}

abbrev pub decreases-loop-first : goal.decreases-loop-first
decreases-loop-first l = length l.ahead
