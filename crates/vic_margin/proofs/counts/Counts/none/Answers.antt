use Rattle.vic_margin.proofs.Words.{add-one, arith, ap, length, length-replicate, ℕ, ◌+◌, ◌∙◌}
use Rattle.vic_margin.proofs.Places.{few_parts}
use Rattle.vic_margin.proofs.Trees.{below_pow, sum_none, zero_at}
use Rattle.vic_margin.proofs.counts.Counts.none.Goals as goal

pub loop-leaves-preserved : goal.loop-leaves-preserved
loop-leaves-preserved c =
    let i = c.loop-leaves.invariant in
    let few = few_parts c.args.parts.now c.count-count.ensures.borders in
    record { half = rw add-one (omega (arith, i.half)); some = omega (arith, i.some); few = omega (arith, c.loop-leaves-test.true, c.count-count.ensures.count) }

pub overflow_add-levels : goal.overflow_add-levels
overflow_add-levels c = let h = below_pow c.loop-leaves.levels in omega arith

pub invariant_of-result : goal.invariant_of-result
invariant_of-result c =
    let l = c.loop-leaves in
    let items = c.in_ok-vec.ensures.items_if_clones_equal (λ y e. e) in
    let zero_m = λ (m : ℕ). zero_at _ m _ items in
    record {
      leaves_half = l.invariant.half;
      node_room = ap length items ∙ length-replicate {A = ℕ} _ 0 ∙ l.invariant.half;
      few = λ n. let e = zero_m n in omega arith;
      low = λ p lt. let e = sum_none _ l.levels (l.leaves + p) zero_m in omega arith;
    }
