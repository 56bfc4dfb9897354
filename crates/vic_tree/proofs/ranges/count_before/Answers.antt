use Rattle.vic_tree.proofs.Words.{ℕ, ltb, ltb-true, ltb-false, rules, arith, IsPartitionPoint-from_clause, IsPartitionedBy-ltb}
use Rattle.vic_tree.proofs.RangeLaws.{lasts_rise}
use Rattle.vic_tree.proofs.ranges.count_before.Goals as goal

pub returns : goal.returns
returns c =
    let es = c.args.ranges.now in
    let parted = IsPartitionedBy-ltb (λ (r : ℕ × ℕ). r.1) es c.args.key (lasts_rise 0 es c.requires) in
    let point = IsPartitionPoint-from_clause (λ (r : ℕ × ℕ). ltb r.1 c.args.key) _ _ c.partition_point.ensures.partitioned parted (λ a r q k. search rules) in
    record {
      within = c.partition_point.ensures.bound;
      before = λ i d lt. ltb-true _ _ (point.0 i d (omega arith) lt);
      ahead = λ d lt. ltb-false _ _ (point.1 c.partition_point.result d (omega arith) lt);
    }
