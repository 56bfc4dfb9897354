use Rattle.vic_tree.proofs.Words.{◌≡◌, ◌∙◌, ◌+◌, [], refl, ap, arith, All-nil, IsMaximalIn, IsOpenBelow, is_left}
use Rattle.vic_tree.proofs.OpenBlocks.{all_opened, run_opened}
use Rattle.vic_tree.proofs.TallyLaws.{all_like, more_counted}
use Rattle.vic_tree.proofs.counted.tally_left.Goals as goal

pub loop-run-init : goal.loop-run-init
loop-run-init c = record {
  pass = rw (c.new-left.ensures, c.ahead.ensures) (λ k h. refl);
  cut = rw c.new-left.ensures (λ k h. absurd (omega arith));
  told = rw c.new-left.ensures (
    [],
    record { rising = λ i j d lt within. absurd (omega arith); wanted = All-nil (IsOpenBelow (is_left c.args.ranges.now c.args.removed.now) 0); others = λ m w. absurd (omega (arith, w.1)) },
    record { count = refl; uids = refl },
  );
}

pub loop-run-preserved : goal.loop-run-preserved
loop-run-preserved c =
    let p = is_left c.args.ranges.now c.args.removed.now in
    let from = c.loop-run.left.0 in
    let r = c.in-Some.run' in
    let inv = c.loop-run.invariant in
    let next = c.in-Some.ensures in
    let run = next.run p inv.pass in
    record {
      pass = next.rest p inv.pass;
      cut = λ k e. ap p (let at : k ≡ r.1 + 1 = omega arith in at) ∙ run.ends;
      told = rw next.from (more_counted (IsOpenBelow p from) (IsMaximalIn r.0 r.1) (IsOpenBelow p (r.1 + 2)) _ _ (run_opened p from r.0 r.1 inv.cut (omega arith) run) (λ m old g. omega (arith, old.1, g.inside.2.0, run.begins)) inv.told c.in_ok-tally.ensures);
    }

pub returns : goal.returns
returns c =
    let inv = c.loop-run.invariant in
    let opened = all_opened c.args.ranges.now c.args.removed.now c.loop-run.left.0 (c.in_default.ensures.none _ inv.pass) in
    (inv.told.0, all_like _ _ inv.told.0 opened inv.told.1, inv.told.2)
