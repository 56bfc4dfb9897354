use Rattle.vic_margin.proofs.Words.{◌≤◌, ◌==◌, ◌&&◌, ◌%◌, arith, nat_tests, rules, ◌≡◌, ◌+◌, ◌-◌, ℕ, length, slice_index}
use Rattle.vic_margin.specs.UidMargins.{one_if}
use Rattle.vic_margin.proofs.Trees.{count_raised, few_raised, is_raised, one_more, way_end, way_start, way_step}
use Rattle.vic_margin.proofs.counts.Counts.raise.Goals as goal
use Rattle.vic_margin.proofs.counts.Counts.raise.Goals.{then-low-eq1, else-low-eq1, then-high-eq1, else-high-eq1}

pub loop-low-init : goal.loop-low-init
loop-low-init c =
    let s = c.args.self.now in
    way_start s.levels _ _ _ (omega (arith, s.leaves_half, c.requires.within)) (omega (arith, s.leaves_half)) (omega (arith, s.leaves_half, s.node_room, c.requires.within))

-- the nodes at both ends are raised
ends_raised : (c : goal.Joined-high-eq1) (n : ℕ) → slice_index c.if-high-eq1.nodes.items n ≡ slice_index c.loop-low.nodes.items n + one_if (is_raised c.loop-low.low c.loop-low.high n)
ends_raised c n =
    let low = c.loop-low.low in
    let high = c.loop-low.high in
    let lt = c.loop-low-test.true in
    let room : high ≤ length c.loop-low.nodes.items = omega (arith, c.loop-low.invariant.room, c.loop-low.invariant.high_room) in
    let same : length c.if-low-eq1.nodes.items ≡ length c.loop-low.nodes.items = search rules in
    let first : slice_index c.if-low-eq1.nodes.items n ≡ slice_index c.loop-low.nodes.items n + one_if (n == low && low % 2 == 1) = elim c.if-low-eq1.branch [
      | then-low-eq1 w ↦ rw w.nodes-is (grind (arith, nat_tests, w.if-low-eq1.true, one_more c.loop-low.nodes.items low _ n (omega (arith, lt, room)) w.index_mut.ensures.value))
      | else-low-eq1 w ↦ rw w.nodes-is (grind (arith, nat_tests, w.if-low-eq1.false))
    ] in
    let second : slice_index c.if-high-eq1.nodes.items n ≡ slice_index c.if-low-eq1.nodes.items n + one_if (n + 1 == high && high % 2 == 1) = elim c.if-high-eq1.branch [
      | then-high-eq1 w ↦ rw w.nodes-is (grind (arith, nat_tests, lt, w.if-high-eq1.true, one_more c.if-low-eq1.nodes.items (high - 1) _ n (omega (arith, lt, room, same)) w.index_mut-then-high-eq1.ensures.value))
      | else-high-eq1 w ↦ rw w.nodes-is (grind (arith, nat_tests, w.if-high-eq1.false))
    ] in
    grind (arith, nat_tests, first, second, lt)

pub loop-low-preserved : goal.loop-low-preserved
loop-low-preserved c = way_step _ _ _ _ _ _ _ _ c.loop-low-test.true (search rules) (ends_raised c) c.loop-low.invariant

pub invariant_of-self-clause-few : goal.invariant_of-self-clause-few
invariant_of-self-clause-few c n = let h = c.args.self.now.few n in let more = c.loop-low.invariant.most n in omega arith

pub invariant_of-self-clause-low : goal.invariant_of-self-clause-low
invariant_of-self-clause-low c p lt =
    let s = c.args.self.now in
    few_raised _ _ _ p s.raised _ (count_raised s.levels s.leaves c.args.span.from c.args.span.to p _ _ s.leaves_half lt (way_end _ _ _ _ _ _ _ c.loop-low-test.false (rw c.min.ensures at c.loop-low.invariant))) (s.low p lt)

pub returns-clause-counts : goal.returns-clause-counts
returns-clause-counts c p lt =
    let s = c.args.self.now in
    count_raised s.levels s.leaves c.args.span.from c.args.span.to p _ _ s.leaves_half lt (way_end _ _ _ _ _ _ _ c.loop-low-test.false (rw c.min.ensures at c.loop-low.invariant))
