use Rattle.vic_tree.proofs.Words.{◌≡◌, ◌∙◌, ◌+◌, ◌≤◌, ap, arith, IsMaximalIn, IsOpenBelow, IsOpenMask, without_keys, is_open_in, is_left, dedup_is}
use Rattle.vic_frame.specs.contracts.mask.MaskOrd.TheImpl.Laws.{matches_eq-law}
use Rattle.vic_tree.proofs.AllMasks.{members_both, short_both, sorted_once}
use Rattle.vic_tree.proofs.OpenBlocks.{all_opened, run_opened}
use Rattle.vic_tree.proofs.open_masks.open_masks_up_to.Goals as goal

pub loop-run-preserved : goal.loop-run-preserved
loop-run-preserved c =
    let p = is_left c.args.ranges.now c.args.removed.now in
    let from = c.loop-run.left.0 in
    let most = c.args.most in
    let r = c.in-Some.run' in
    let inv = c.loop-run.invariant in
    let next = c.in-Some.ensures in
    let run = next.run p inv.pass in
    let opened = run_opened p from r.0 r.1 inv.cut (omega arith) run in
    record {
      pass = next.rest p inv.pass;
      cut = λ k e. ap p (let at : k ≡ r.1 + 1 = omega arith in at) ∙ run.ends;
      members = rw next.from (members_both (λ m. IsOpenBelow p from m × (m.len ≤ most)) (λ m. IsMaximalIn r.0 r.1 m × (m.len ≤ most)) (λ m. IsOpenBelow p (r.1 + 2) m × (m.len ≤ most)) _ _ (λ m. short_both _ _ _ (m.len ≤ most) (opened m)) inv.members c.in_ok-push_in_run.ensures);
    }

pub returns : goal.returns
returns c =
    let inv = c.loop-run.invariant in
    let most = c.args.most in
    let opened = all_opened c.args.ranges.now c.args.removed.now c.loop-run.left.0 (c.in_default.ensures.none _ inv.pass) in
    rw (dedup_is _ _ _ c.dedup.ensures.filtered) (sorted_once _ matches_eq-law (λ m. IsOpenMask (without_keys (is_open_in c.args.ranges.now) c.args.removed.now) m × (m.len ≤ most)) _ _ (λ m. (λ o. (inv.members m).0 ((opened m).1 o.0, o.1), λ h. let w = (inv.members m).1 h in ((opened m).0 w.0, w.1))) c.sort_unstable.ensures.permutation c.sort_unstable.ensures.sorted)
