use Rattle.vic_survey.proofs.Words.{take, ◌↔◌, ℕ, ◌<◌, ◌≤◌, BitMask, length, get_or}
use Rattle.std.specs.List.{AllPairs, Contains}
use Rattle.vic_tree.specs.OpenMasks.{ComesBefore}
use Rattle.vic_survey.specs.Parts.{AreRisingMasks}
use Rattle.vic_survey.proofs.making.masks_without.Given as goal

abbrev pub invariant-loop-mask : goal.invariant-loop-mask
invariant-loop-mask l = record {
  valid : AreRisingMasks l.kept.items;
  members : (m : BitMask) → Contains l.kept.items m ↔ (Contains (take l.mask-index l.fn.masks.items) m × ¬ (Contains l.others m));
  rising : AllPairs ComesBefore l.ahead;
  same : (j : ℕ) (d : BitMask) → l.mask-index ≤ j → j < length l.fn.masks.items → Contains l.ahead (get_or l.fn.masks.items j d) ↔ Contains l.others (get_or l.fn.masks.items j d);
}
