use Rattle.vic_tree.proofs.Words.{◌≡◌, ℕ, true, take, IsUid, has, has_key, AreKeys}
use Rattle.vic_tree.proofs.sorted_keys.SortedKeys.of.Given as goal

abbrev pub invariant-loop-uid : goal.invariant-loop-uid
invariant-loop-uid l = record {
  keys : AreKeys l.keys.items;
  members : (u : ℕ) → IsUid u → has_key l.keys.items u ≡ has (take l.uid-index l.uids) u;
  are_uids : (u : ℕ) → has (take l.uid-index l.uids) u ≡ true → IsUid u;
}
