use Rattle.vic_tree.proofs.Words.{◌∙◌, ℕ, List, inl, inr, ap, arith, cases_lt, is_left, nil_from_length}
use Rattle.vic_tree.proofs.RunLaws.{is_first_run, none_passed, pass_others}
use Rattle.vic_tree.proofs.RangeLaws.{from_lower}
use Rattle.vic_tree.proofs.runs.Runs.next_run.Goals as goal

pub loop-range-init : goal.loop-range-init
loop-range-init c = rw (← c.self.view_is) record {
  from = omega arith;
  none = λ p h k low lt. absurd (omega arith);
  same = λ p h. h;
  ranges = c.self.invariant;
}

pub returns-then-self-last-clause-run : goal.returns-then-self-last-clause-run
returns-then-self-last-clause-run c p h =
    let inv = c.loop-range.invariant in
    let free = c.first_free-self-inside.ensures in
    let run = rw c.new.ensures at c.run_from-run.ensures in
    let is = c.in-Some.ensures.cases.0 in
    is_first_run p _ c.loop-range.self-inside.from _ _ c.in-Some.range.now c.in-Some.others.now c.loop-range.self-inside.removed c.first_free-self-inside.new.self
    (rw is at inv.ranges) (rw is at (inv.same p h)) (inv.none p h) inv.from (omega arith) (omega arith) (omega arith)
    (λ k low lt. free.before k (omega arith) (omega arith)) (λ k le. free.same k (omega arith)) run.free (λ lt. run.end (omega arith))

pub returns-then-self-last-clause-rest : goal.returns-then-self-last-clause-rest
returns-then-self-last-clause-rest c p h k le =
    let first = rw c.new.ensures at c.run_from-run.ensures.first in
    rw (c.first_free-self-inside.ensures.same k (omega arith)) (c.loop-range.invariant.same p h k (omega arith))

pub loop-range-preserved : goal.loop-range-preserved
loop-range-preserved c =
    let inv = c.loop-range.invariant in
    let free = c.first_free-self-inside.ensures in
    let is = c.in-Some.ensures.cases.0 in
    let ranges = rw is at inv.ranges in
    let same = rw is at inv.same in
    let r = c.in-Some.range.now in
    let others = c.in-Some.others.now in
    let removed = c.loop-range.self-inside.removed in
    record {
      from = omega arith;
      none = λ p h. none_passed p _ _ _ r others removed ranges (same p h) (inv.none p h) (λ k low lt. free.before k (omega arith) lt);
      same = λ p h. pass_others p _ _ r others removed _ (omega arith) (omega arith) (same p h) free.same;
      ranges = from_lower _ 0 others (omega arith) ranges.3;
    }

pub returns-clause-none : goal.returns-clause-none
returns-clause-none c p h k le =
    let inv = c.loop-range.invariant in
    elim (cases_lt k c.loop-range.self-inside.from) [
      | inl below ↦ inv.none p h k (omega arith) below
      | inr from ↦ inv.same p h k from ∙ ap (λ (rs : List (ℕ × ℕ)). is_left rs c.loop-range.self-inside.removed k) (nil_from_length c.loop-range.self-inside.ranges.now c.in_default.ensures.cases)
    ]
