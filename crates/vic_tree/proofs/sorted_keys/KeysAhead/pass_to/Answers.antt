use Rattle.vic_tree.proofs.Words.{◌∙◌, ◌-◌, drop, take, length, ltb, ltb-true, ap, rules, arith, length-drop, length-take-le, take_all, get_or-take, has, IsNonDecreasingBy-take, IsPartitionPoint-from_clause, IsPartitionedBy-ltb}
use Rattle.vic_tree.proofs.RunLaws.{keys_dropped}
use Rattle.vic_tree.proofs.sorted_keys.KeysAhead.pass_to.Goals as goal

pub returns-then-bound-gt1 : goal.returns-then-bound-gt1
returns-then-bound-gt1 c k le =
    let removed = c.self.inside.keys.now in
    let from = c.args.from in
    let n = c.partition_point-below.result in
    let bound = c.min.result in
    let parted = IsPartitionedBy-ltb (λ x. x) (take bound removed) from (IsNonDecreasingBy-take (λ x. x) bound removed c.self.invariant.1) in
    let point = IsPartitionPoint-from_clause (λ x. ltb x from) (take bound removed) n c.partition_point-below.ensures.partitioned parted (λ a r q k. search rules) in
    let rest = length-drop n removed in
    let short = length-take-le bound removed in
    ap (λ ks. has ks k) (take_all (length removed - n) (drop n removed) (omega arith))
    ∙ keys_dropped removed n from k (λ i d lt. let below = ltb-true _ _ (point.0 i d (omega arith) lt) in omega (arith, below, get_or-take bound removed i d (omega (arith, lt, short)))) le
    ∙ ap (λ ks. has ks k) c.self.view_is
