use Rattle.vic_tree.proofs.Words.{take, list_any, lies_in, SameUids, is_open_in}
use Rattle.vic_tree.proofs.union.ranges_of_masks.Given as goal

abbrev pub invariant-loop-mask : goal.invariant-loop-mask
invariant-loop-mask l = SameUids (is_open_in l.ranges.items) (λ u. list_any (λ m. lies_in m u) (take l.mask-index l.masks))
