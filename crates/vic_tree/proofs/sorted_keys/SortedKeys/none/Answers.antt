use Rattle.vic_tree.proofs.Words.{◌<◌, ◌^◌, arith, All-nil}
use Rattle.vic_tree.proofs.sorted_keys.SortedKeys.none.Goals as goal

pub invariant_of-result : goal.invariant_of-result
invariant_of-result c = rw c.new.ensures.items (All-nil (λ k. k < 2 ^ 56), λ i j d le lt. absurd (omega arith))
