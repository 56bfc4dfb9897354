use Rattle.vic_tree.proofs.Words.{◌∙◌, ℕ, not, ap, sym, rules, list_any-IsPermutation, is_between, IsNonDecreasingBy-from_sort_by_key, IfOk-weaker}
use Rattle.vic_tree.proofs.ranges.complement.Goals as goal

pub complement_in_order-requires : goal.complement_in_order-requires
complement_in_order-requires c =
    IsNonDecreasingBy-from_sort_by_key (λ (r : ℕ × ℕ). r.0) _ c.sort_unstable_by_key.ensures.sorted (λ a r q k. search rules)

pub returns-clause-keys : goal.returns-clause-keys
returns-clause-keys c =
    IfOk-weaker c.complement_in_order.result _ _ (λ others h k small. h k small
    ∙ ap not (sym (list_any-IsPermutation (λ r. is_between r.0 r.1 k) _ _ c.sort_unstable_by_key.ensures.permutation))) c.complement_in_order.ensures.keys
