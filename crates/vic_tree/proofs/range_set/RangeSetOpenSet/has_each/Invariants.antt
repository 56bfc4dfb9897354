use Rattle.vic_tree.proofs.Words.{◌≡◌, ℕ, ◌≤◌, ◌<◌, get_or, length, map, take, uid_of, AreRanges, in_ranges, is_open_in}
use Rattle.vic_tree.proofs.range_set.RangeSetOpenSet.has_each.Given as goal

abbrev pub invariant-loop-key : goal.invariant-loop-key
invariant-loop-key l = record {
  each : l.each.items ≡ map (λ k. is_open_in l.self (uid_of k)) (take l.key-index l.keys);
  ranges : AreRanges l.ahead;
  same : (j : ℕ) → l.key-index ≤ j → j < length l.keys → (k : ℕ) → get_or l.keys j 0 ≤ k → in_ranges l.ahead k ≡ in_ranges l.self k;
}
