use Rattle.vic_sets.proofs.Words.{◌≤◌, Option, Some, None, IfSome, arith, BitMask, Node, open_at, height, IsWidest, IsWidestOf}
use Rattle.vic_sets.proofs.LowBits.{widest_of_uids}
use Rattle.vic_sets.proofs.mask_tree.MaskTreeOpenSet.widest.Goals as goal

widest_found : (n : Node) (r : Option BitMask) → height n ≤ 56 → IfSome r (IsWidestOf (open_at n)) → IfSome r (λ m. m.len ≤ height n) → IfSome r (IsWidest (open_at n))
widest_found n None low found short = found
widest_found n (Some m) low found short = widest_of_uids n m low (omega arith) found

pub returns-clause-found : goal.returns-clause-found
returns-clause-found c = rw (← c.self.view_is) (widest_found c.self.inside.root c.widest_below.result c.self.invariant.1 c.widest_below.ensures.found c.widest_below.ensures.short)
