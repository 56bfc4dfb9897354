use Rattle.vic_tree.proofs.Words.{◌≡◌, ◌∙◌, ◌+◌, refl, ap, arith, All-nil, IsOpenBelow, without_keys, is_open_in, is_left, IsOpenMask}
use Rattle.vic_tree.proofs.FirstMasks.{first_kept, first_like}
use Rattle.vic_tree.proofs.OpenBlocks.{all_opened, run_opened}
use Rattle.vic_tree.proofs.open_masks.open_masks_left.Goals as goal

pub loop-run-init : goal.loop-run-init
loop-run-init c = record {
  pass = rw (c.new-left.ensures, c.ahead.ensures) (λ k h. refl);
  cut = rw c.new-left.ensures (λ k h. absurd (omega arith));
  kept = rw c.new-kept.ensures (λ i j d lt within. absurd (omega arith), omega arith);
  first = rw (c.new-left.ensures, c.new-kept.ensures) (record { rising = λ i j d lt within. absurd (omega arith); wanted = All-nil (IsOpenBelow (is_left c.args.ranges.now c.args.removed.now) 0); others = λ m w. absurd (omega (arith, w.1)) });
}

pub loop-run-preserved : goal.loop-run-preserved
loop-run-preserved c =
    let p = is_left c.args.ranges.now c.args.removed.now in
    let inv = c.loop-run.invariant in
    let next = c.in-Some.ensures in
    let run = next.run p inv.pass in
    record {
      pass = next.rest p inv.pass;
      cut = λ k e. ap p (let at : k ≡ c.in-Some.run'.1 + 1 = omega arith in at) ∙ run.ends;
      kept = c.keep_in_run.ensures.kept;
      first = rw next.from (first_like 17 _ (IsOpenBelow p (c.in-Some.run'.1 + 2)) _ (run_opened p c.loop-run.left.0 _ _ inv.cut (omega arith) run) (first_kept (IsOpenBelow p c.loop-run.left.0) _ c.loop-run.kept.items _ inv.first c.keep_in_run.ensures.keeps));
    }

pub returns : goal.returns
returns c =
    let inv = c.loop-run.invariant in
    let left = is_left c.args.ranges.now c.args.removed.now in
    let set = without_keys (is_open_in c.args.ranges.now) c.args.removed.now in
    let first = first_like 17 (IsOpenBelow left c.loop-run.left.0) (IsOpenMask set) c.loop-run.kept.items (all_opened c.args.ranges.now c.args.removed.now c.loop-run.left.0 (c.in_default.ensures.none _ inv.pass)) inv.first in
    record { first = c.first_of_kept.ensures.first set first; more = c.first_of_kept.ensures.more set first }
