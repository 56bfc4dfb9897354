use Rattle.vic_tree.proofs.Words.{[], ◌∷◌, ◌++◌, ◌∙◌, refl, sym, ap, append-nil, append_assoc, All-nil, ◌+◌, ◌<◌, ◌≤◌, arith, ℕ, Bool, ◌≡◌, is_left, is_between, nat_tests, IsFirstRun}
use Rattle.vic_tree.proofs.RangeLaws.{all_runs, run_pushed}
use Rattle.vic_tree.proofs.besides.push_left.Goals as goal

-- of the keys up to the one behind a run those in it pass
in_run_alone : (p : ℕ → Bool) (from x y k : ℕ) → IsFirstRun p from x y → from ≤ k → k < y + 2 → p k ≡ is_between x y k
in_run_alone p from x y k run low high = grind (arith, nat_tests, run.before k, run.passes k, run.ends)

pub loop-run-init : goal.loop-run-init
loop-run-init c = rw (c.new-left.ensures, c.ahead.ensures) record {
  pass = λ k h. refl;
  runs = ([], sym (append-nil _), record { ranges = tt; ends = All-nil (λ r. r.1 + 2 ≤ 0); keys = λ k. grind (arith, nat_tests) });
}

pub loop-run-preserved : goal.loop-run-preserved
loop-run-preserved c =
    let p = is_left c.args.ranges.now c.args.removed.now in
    let inv = c.loop-run.invariant in
    let next = c.in-Some.ensures in
    let run = next.run p inv.pass in
    let r = c.in-Some.run' in
    let begins = run.begins in
    record {
      pass = next.rest p inv.pass;
      runs = (inv.runs.0 ++ r ∷ [], rw c.in_ok-push.ensures.items (ap (λ rs. rs ++ r ∷ []) inv.runs.1 ∙ append_assoc c.args.out.now.items inv.runs.0 (r ∷ [])), rw next.from (run_pushed p c.loop-run.left.0 r.0 r.1 (r.1 + 2) inv.runs.0 inv.runs.2 begins (omega arith) (omega arith) (omega arith) (λ k. in_run_alone p c.loop-run.left.0 r.0 r.1 k run)));
    }

pub returns : goal.returns
returns c =
    let inv = c.loop-run.invariant in
    (inv.runs.0, inv.runs.1, inv.runs.2.ranges, λ k. all_runs (is_left c.args.ranges.now c.args.removed.now) c.loop-run.left.0 k inv.runs.0 inv.runs.2 (c.in_default.ensures.none _ inv.pass k))
