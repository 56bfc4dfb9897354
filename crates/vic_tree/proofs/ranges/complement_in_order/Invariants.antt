use Rattle.vic_tree.proofs.Words.{◌≡◌, ℕ, ◌^◌, ◌≤◌, not, drop, take, length, in_ranges}
use Rattle.vic_tree.proofs.RangeLaws.{AreRunsTo}
use Rattle.vic_tree.proofs.ranges.complement_in_order.Given as goal

abbrev pub invariant-loop-i : goal.invariant-loop-i
invariant-loop-i l = record {
  within : l.count ≤ l.i;
  len : length l.gaps.items ≡ length l.fn.ranges.items;
  rest : drop l.i l.gaps.items ≡ drop l.i l.fn.ranges.items;
  runs : AreRunsTo (λ k. not (in_ranges l.fn.ranges.items k)) l.from (take l.count l.gaps.items);
  passed : (k : ℕ) → l.from ≤ k → in_ranges (drop l.i l.fn.ranges.items) k ≡ in_ranges l.fn.ranges.items k;
  small : l.from ≤ 2 ^ 56;
}
