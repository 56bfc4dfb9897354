use Rattle.vic_tree.proofs.Words.{◌≡◌, map, take, uid_of}
use Rattle.vic_tree.proofs.open_set.OpenSet.has_each.Given as goal

abbrev pub invariant-loop-key : goal.invariant-loop-key
invariant-loop-key g l = l.each.items ≡ map (λ k. g.Self.OpenSet.is_open l.self (uid_of k)) (take l.key-index l.keys)
