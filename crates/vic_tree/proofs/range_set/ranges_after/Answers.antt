use Rattle.vic_tree.proofs.Words.{◌∙◌, ap, list_any-append, arith, mirror, mirror_below, in_ranges, is_between, nat_tests, IfOk-weaker}
use Rattle.vic_tree.proofs.RangeLaws.{firsts_rise}
use Rattle.vic_tree.proofs.range_set.ranges_after.Goals as goal

pub complement_in_order-requires : goal.complement_in_order-requires
complement_in_order-requires c = rw c.in_ok-from_slice.ensures.items (firsts_rise 0 c.ranges-2.inside.ranges.now c.ranges-2.invariant)

pub invariant_of-range : goal.invariant_of-range
invariant_of-range c = rw c.as_slice.ensures.value (omega arith, c.as_slice.ensures.is_range.0, c.as_slice.ensures.is_range.1, tt)

pub returns-clause-left : goal.returns-clause-left
returns-clause-left c = IfOk-weaker c.complement.result _ _ (λ left keys u is_uid.
    let k = mirror u in
    let small = mirror_below 56 u in
    let pushed = c.in_ok-push_left.ensures in
    let same = ap (λ rs. in_ranges rs k) c.in_ok-from_slice.ensures.items in
    let more = ap (λ rs. in_ranges rs k) pushed.1 ∙ list_any-append (λ r. is_between r.0 r.1 k) _ pushed.0 in
    let one = rw c.as_slice.ensures.value at (pushed.3 k) in
    let except = c.in_ok-except.ensures.members u is_uid in
    grind (arith, nat_tests, keys k small, c.in_ok-closed.ensures.keys k small, same, more, one, except)) c.complement.ensures.keys
