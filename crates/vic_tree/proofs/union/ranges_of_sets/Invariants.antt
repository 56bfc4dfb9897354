use Rattle.vic_tree.proofs.Words.{◌≡◌, ℕ, take, list_any, in_ranges}
use Rattle.vic_tree.proofs.union.ranges_of_sets.Given as goal

abbrev pub invariant-loop-set : goal.invariant-loop-set
invariant-loop-set l = (k : ℕ) → in_ranges l.all.items k ≡ list_any (λ one. in_ranges one k) (take l.set-index l.sets)
