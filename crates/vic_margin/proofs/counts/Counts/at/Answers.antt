use Rattle.std.proofs.lemmas.List.{get_or_default}
use Rattle.vic_margin.proofs.Words.{arith, ◌+◌, ◌-◌, ◌∙◌, sym}
use Rattle.vic_margin.proofs.Trees.{sum_next}
use Rattle.vic_margin.proofs.counts.Counts.at.Goals as goal

pub loop-level-preserved : goal.loop-level-preserved
loop-level-preserved c =
    let l = c.loop-level in
    let s = c.args.self.now in
    let next = sum_next s.nodes.items (s.levels - l._level) (s.levels - (l._level + 1)) l.node (omega arith) in
    let node = get_or_default s.nodes.items l.node 0 c.index.result.now (omega (arith, l.invariant.upto, c.requires, s.leaves_half, s.node_room)) ∙ sym c.index.ensures in
    record { upto = omega arith; sum = omega (arith, node) }
