use Rattle.vic_tree.proofs.Words.{◌≡◌, ◌∙◌, ℕ, ◌<◌, List, length, get_or, ap, arith, list_any_more, mirror, is_between, nat_tests}
use Rattle.vic_tree.proofs.open_set.OpenSet.without.Goals as goal

pub loop-range-preserved : goal.loop-range-preserved
loop-range-preserved g c u i =
    let rs = c.args.closed.items in
    let n = c.loop-range.range-index in
    let r = c.range-item.result in
    let k = mirror u in
    let items : c.deref-range-items.result.now ≡ rs = c.deref-range-items.ensures.value in
    let lt : n < length rs = omega (arith, c.loop-range-test.true, ap (λ (xs : List (ℕ × ℕ)). length xs) items) in
    let more = rw (← (c.range-item.is ∙ ap (λ (xs : List (ℕ × ℕ)). get_or xs n r) items)) at (list_any_more (λ q. is_between q.0 q.1 k) rs n r lt) in
    grind (arith, nat_tests, c.in_ok-settle_keys.ensures.done u i, c.loop-range.invariant u i, more)
