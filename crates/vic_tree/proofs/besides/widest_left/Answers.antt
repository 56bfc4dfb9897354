use Rattle.vic_tree.proofs.Words.{is_left}
use Rattle.vic_tree.proofs.BesidesLaws.{all_found, run_found}
use Rattle.vic_tree.proofs.besides.widest_left.Goals as goal

pub loop-run-preserved : goal.loop-run-preserved
loop-run-preserved c =
    let p = is_left c.args.ranges.now c.args.removed.now in
    let inv = c.loop-run.invariant in
    let next = c.in-Some.ensures in
    record {
      pass = next.rest p inv.pass;
      found = rw next.from (run_found p c.loop-run.widest c.widest_with.result _ _ _ (next.run p inv.pass) c.widest_with.ensures.one c.widest_with.ensures.least c.widest_with.ensures.at_most_found inv.found);
    }

pub returns : goal.returns
returns c =
    let inv = c.loop-run.invariant in
    let all = all_found c.args.ranges.now c.args.removed.now c.loop-run.left.0 c.loop-run.widest (c.in_default.ensures.none _ inv.pass) inv.found in
    record { found = all.0; none = all.1 }
