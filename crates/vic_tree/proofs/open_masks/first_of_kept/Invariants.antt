use Rattle.vic_tree.proofs.Words.{◌≡◌, ◌≤◌, length, take}
use Rattle.vic_tree.proofs.open_masks.first_of_kept.Given as goal

abbrev pub invariant-loop-mask : goal.invariant-loop-mask
invariant-loop-mask l = record {
  items : l.masks.items ≡ take l.mask-index l.mask-items;
  short : length l.mask-items ≤ 16;
}
