use Rattle.vic_tree.proofs.Words.{arith, nat_tests}
use Rattle.vic_tree.proofs.SetLaws.{without_more}
use Rattle.vic_tree.proofs.open_set.OpenSet.widest_besides.Goals as goal

pub loop-key-preserved : goal.loop-key-preserved
loop-key-preserved g c u i =
    let is = c.as_slice-key-items.ensures.value in
    let more = without_more (g.Self.OpenSet.is_open c.args.self) c.args.keys.now c.loop-key.key-index c.uid_at.result u (rw is at c.loop-key-test.true) i c.uid_at.ensures.is_uid (rw is at c.uid_at.ensures.back) in
    grind (arith, nat_tests, c.in_ok-settle.ensures.done u i, c.of_uid.ensures.alone u i, c.loop-key.invariant u i, more)
