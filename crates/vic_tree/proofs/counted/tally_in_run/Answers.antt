use Rattle.vic_tree.proofs.Words.{◌+◌, ◌<◌, arith, mirror_bits, IsMaximalIn}
use Rattle.vic_tree.proofs.BlockLaws.{mask_block}
use Rattle.vic_tree.proofs.TallyLaws.{len_tallied, like_tallied, none_tallied}
use Rattle.vic_tree.proofs.counted.tally_in_run.Goals as goal

pub loop-len-init : goal.loop-len-init
loop-len-init c = record {
  tallies = none_tallied (λ m. IsMaximalIn c.args.run.0 c.args.run.1 m × (m.len < c.least_len-len.result)) c.args.before
      (λ m w. c.least_len-len.ensures.none m.len (mirror_bits m.len m.value) w.1 (mask_block c.args.run.0 c.args.run.1 m w.0.inside.0 w.0.inside.1 w.0.inside.2));
  most = omega (arith, c.least_len-len.ensures.short);
}

pub loop-len-preserved : goal.loop-len-preserved
loop-len-preserved c =
    let a = c.maximal_at_start in
    let b = c.maximal_at_end in
    record {
      tallies = len_tallied c.args.run.0 c.args.run.1 c.loop-len.len a.result b.result _ _ _ _ a.ensures.found a.ensures.only b.ensures.found b.ensures.only c.loop-len.invariant.tallies c.in_ok-tally.ensures c.in_ok-tally-2.ensures;
      most = omega (arith, c.loop-len-test.true);
    }

pub returns : goal.returns
returns c =
    like_tallied (λ m. IsMaximalIn c.args.run.0 c.args.run.1 m × (m.len < c.loop-len.len)) (IsMaximalIn c.args.run.0 c.args.run.1) _ _
    (λ m. (λ w. w.0, λ g. (g, omega (arith, g.inside.1, c.loop-len-test.false))))
    c.loop-len.invariant.tallies
