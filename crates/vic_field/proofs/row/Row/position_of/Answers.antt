use Rattle.vic_field.proofs.Words.{◌≡◌, ◌+◌, ◌-◌, true, false, ltb, ltb-true, ltb-false, List, ℕ, length, take, drop, subst, sym, arith, rules, nat_cmp, length-drop, length-take-le, IsStrictlySortedBy, non_decreasing_from_sorted, IsPartitionPoint, IsNonDecreasingBy-drop, IsNonDecreasingBy-take, IsPartitionPoint-from_clause, IsPartitionedBy-ltb, HasKeyPositionBetween, IsKeyPosition}
use Rattle.vic_field.proofs.RowLaws.{found}
use Rattle.vic_field.proofs.row.Row.position_of.Goals as goal

pub returns : goal.returns
returns c =
    let key = c.args.key in
    let ks = c.deref.result.now in
    let from = c.bounds-from.result.0 in
    let to = c.bounds-from.result.1 in
    let position = c.partition_point.result in
    let order : IsStrictlySortedBy nat_cmp ks = subst (IsStrictlySortedBy nat_cmp) (sym c.deref.ensures.value) c.args.self.now.rising.rising in
    let near : HasKeyPositionBetween key ks from to = subst (λ xs. HasKeyPositionBetween key xs from to) (sym c.deref.ensures.value) c.bounds-from.ensures in
    let part = take (to - from) (drop from ks) in
    let up = IsNonDecreasingBy-take (λ (y : ℕ). y) (to - from) (drop from ks) (IsNonDecreasingBy-drop (λ (y : ℕ). y) from ks (non_decreasing_from_sorted ks order)) in
    let within = near.within in
    let rest = length-drop from ks in
    let long : length part ≡ to - from = length-take-le (to - from) (drop from ks) (omega (arith, within, rest)) in
    let most = c.partition_point.ensures.bound in
    let point : IsPartitionPoint (λ (y : ℕ). ltb y key ≡ true) (λ (y : ℕ). ltb y key ≡ false) part position =
    IsPartitionPoint-from_clause (λ (y : ℕ). ltb y key) _ _ c.partition_point.ensures.partitioned (IsPartitionedBy-ltb (λ (y : ℕ). y) part key up) (λ a r q k. search rules) in
    subst (λ (xs : List ℕ). IsKeyPosition key xs (from + position)) c.deref.ensures.value (found ks key from to position near (omega (arith, most, long))
    (λ k lt. ltb-true _ _ (point.0 k 0 (omega arith) lt))
    (λ k le lt. let no_ = ltb-false _ _ (point.1 k 0 le (omega (arith, lt, long))) in omega (arith, no_)))
