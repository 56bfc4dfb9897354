use Rattle.vic_tree.proofs.Words.{◌≡◌, ◌∙◌, ◌+◌, ap, arith, AreFirst, IsOpenBelow, without_keys, is_open_in, is_left, IsOpenMask}
use Rattle.vic_tree.proofs.FirstMasks.{first_kept, first_like}
use Rattle.vic_tree.proofs.OpenBlocks.{all_opened, run_opened}
use Rattle.vic_tree.proofs.StretchLaws.{cut_before, masks_passed}
use Rattle.vic_tree.proofs.spaced_keys.open_masks_between.Goals as goal

pub loop-run-preserved : goal.loop-run-preserved
loop-run-preserved c =
    let rs = c.args.ranges.now in
    let keys = c.args.removed.now in
    let p = is_left rs keys in
    let inv = c.loop-run.invariant in
    let next = c.in-Some.ensures in
    let run = next.run p inv.pass in
    let from : c.from.result ≡ c.in-Some.run'.1 + 2 = c.from.ensures ∙ next.from in
    let passed = c.pass-next.ensures in
    let to = c.pass-next.result.1 in
    let first : AreFirst 17 (IsOpenBelow p c.from.result) c.keep_in_run.new.kept.items = rw from (first_like 17 _ (IsOpenBelow p (c.in-Some.run'.1 + 2)) _ (run_opened p c.loop-run.left.0 _ _ inv.cut (omega arith) run) (first_kept (IsOpenBelow p c.loop-run.left.0) _ c.loop-run.kept.items _ inv.first c.keep_in_run.ensures.keeps)) in
    rw c.go_on.ensures record {
      pass = λ k le. next.rest p inv.pass k (omega (arith, passed.from, c.from.ensures));
      cut = cut_before rs keys c.from.result to (λ k e. ap p (let at : k ≡ c.in-Some.run'.1 + 1 = omega arith in at) ∙ run.ends) passed.cut;
      kept = c.keep_in_run.ensures.kept;
      first = masks_passed rs keys c.from.result to _ passed.from passed.past first;
    }

pub returns : goal.returns
returns c =
    let inv = c.loop-run.invariant in
    let left = is_left c.args.ranges.now c.args.removed.now in
    let set = without_keys (is_open_in c.args.ranges.now) c.args.removed.now in
    let first = first_like 17 (IsOpenBelow left c.loop-run.left.0) (IsOpenMask set) c.loop-run.kept.items (all_opened c.args.ranges.now c.args.removed.now c.loop-run.left.0 (c.in_default.ensures.none _ inv.pass)) inv.first in
    record { first = c.first_of_kept.ensures.first set first; more = c.first_of_kept.ensures.more set first }
