use Rattle.std.proofs.Common.{arith, ltb, rules}
use Rattle.std.proofs.lemmas.List.Sorted.{IsPartitionPoint-from_clause, IsPartitionedBy-ltb}
use Rattle.vic_collection.specs.declared.logs_by_uid.LogOfUid.{LogOfUid}
use Rattle.vic_collection.proofs.Sighted.{below_from_search, found_between}
use Rattle.vic_collection.proofs.logs_by_uid.bounds.Goals as goal

pub end_of-requires-clause-before : goal.end_of-requires-clause-before
end_of-requires-clause-before c =
    let all = c.args.rows.now in
    let u = c.args.uid in
    let uid = λ (s : LogOfUid). s.uid in
    let from = below_from_search uid u all _ (IsPartitionPoint-from_clause (λ (s : LogOfUid). ltb s.uid u) _ _ c.partition_point-from.ensures.partitioned (IsPartitionedBy-ltb uid all u c.requires) (λ a r q k. search rules)) in
    λ k d l h. let low = from.0 k d l h in omega (arith, low)

pub returns-clause-order : goal.returns-clause-order
returns-clause-order c =
    let all = c.args.rows.now in
    let u = c.args.uid in
    let uid = λ (s : LogOfUid). s.uid in
    let from = below_from_search uid u all _ (IsPartitionPoint-from_clause (λ (s : LogOfUid). ltb s.uid u) _ _ c.partition_point-from.ensures.partitioned (IsPartitionedBy-ltb uid all u c.requires) (λ a r q k. search rules)) in
    (found_between uid u all _ _ from c.end_of.ensures.end c.partition_point-from.ensures.bound c.end_of.ensures.bound (record { uid = u; log = 0 })).0

pub returns-clause-found : goal.returns-clause-found
returns-clause-found c =
    let all = c.args.rows.now in
    let u = c.args.uid in
    let uid = λ (s : LogOfUid). s.uid in
    let from = below_from_search uid u all _ (IsPartitionPoint-from_clause (λ (s : LogOfUid). ltb s.uid u) _ _ c.partition_point-from.ensures.partitioned (IsPartitionedBy-ltb uid all u c.requires) (λ a r q k. search rules)) in
    (found_between uid u all _ _ from c.end_of.ensures.end c.partition_point-from.ensures.bound c.end_of.ensures.bound (record { uid = u; log = 0 })).1
