use Rattle.vic_collection.proofs.Words.{◌+◌, arith, AllPairs-from_increasing}
use Rattle.std.proofs.Common.{ltb, rules}
use Rattle.std.proofs.lemmas.Bool.{ltb-true, ltb-false}
use Rattle.std.proofs.lemmas.List.{get_or-map, length-map}
use Rattle.std.proofs.lemmas.List.Sorted.{IsNonDecreasingBy-from_all_adjacent, IsPartitionPoint-from_clause, IsPartitionedBy-ltb}
use Rattle.vic_report.specs.Findings.{uids_of}
use Rattle.vic_report.specs.declared.shown.ShownUid.{ShownUid}
use Rattle.vic_collection.proofs.Listing.{found_at}
use Rattle.vic_collection.proofs.unlisted.index_of.Goals as goal

pub returns : goal.returns
returns c =
    let shown = c.args.shown.now in
    let parted = IsPartitionedBy-ltb (λ (s : ShownUid). s.uid) shown c.args.uid
    (IsNonDecreasingBy-from_all_adjacent (λ (s : ShownUid). s.uid) shown (λ k d lt.
    let rises = AllPairs-from_increasing (uids_of shown) c.requires.rising k (k + 1) 0 (omega arith) (omega (arith, lt, length-map shown (λ (s : ShownUid). s.uid))) in
    let first = get_or-map (λ (s : ShownUid). s.uid) shown k d 0 (omega (arith, lt)) in
    let second = get_or-map (λ (s : ShownUid). s.uid) shown (k + 1) d 0 lt in
    omega (arith, rises, first, second))) in
    let point = IsPartitionPoint-from_clause (λ (s : ShownUid). ltb s.uid c.args.uid) _ _ c.partition_point.ensures.partitioned parted (λ a r q k. search rules) in
    let found = found_at shown c.args.uid c.partition_point.result c.requires.rising c.requires.among (λ i d lt. ltb-true _ _ (point.0 i d (omega arith) lt)) (λ d lt. ltb-false _ _ (point.1 c.partition_point.result d (omega arith) lt)) in
    record { within = found.0; there = found.1 }
