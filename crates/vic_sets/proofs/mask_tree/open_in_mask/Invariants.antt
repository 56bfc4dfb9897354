use Rattle.vic_sets.proofs.Words.{◌≡◌, ◌&&◌, filter, take, lies_in, open_at}
use Rattle.vic_sets.proofs.mask_tree.open_in_mask.Given as goal

abbrev pub invariant-loop-uid : goal.invariant-loop-uid
invariant-loop-uid l = l.kept.items ≡ filter (λ u. lies_in l.mask u && open_at l.root u) (take l.uid-index l.uids)
