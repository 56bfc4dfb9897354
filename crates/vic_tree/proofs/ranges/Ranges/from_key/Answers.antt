use Rattle.vic_tree.proofs.Words.{refl, take_rest}
use Rattle.vic_tree.proofs.RangeLaws.{begins_ahead, rest_dropped}
use Rattle.vic_tree.proofs.ranges.Ranges.from_key.Goals as goal

pub invariant_of-result : goal.invariant_of-result
invariant_of-result c =
    let es = c.self.inside.ranges.now in
    let n = c.count_before.result in
    rw (take_rest es n) (rest_dropped c.args.key es es n (record { ranges = c.self.invariant; same = λ k from. refl }) c.count_before.ensures.before).ranges

pub returns : goal.returns
returns c =
    let es = c.self.inside.ranges.now in
    let n = c.count_before.result in
    let rest = rest_dropped c.args.key es es n (record { ranges = c.self.invariant; same = λ k from. refl }) c.count_before.ensures.before in
    rw (← c.self.view_is, take_rest es n) record { ahead = begins_ahead es n c.args.key c.count_before.ensures.ahead; same = rest.same }
