use Rattle.vic_tree.proofs.Words.{◌≡◌, ◌∙◌, ℕ, ◌+◌, ◌-◌, ◌<◌, ◌≤◌, ◌||◌, false, take, drop, length, ◌∷◌, ◌^◌, max, sym, ap, subst, List, arith, not, Bool, take_more_set, length-set, drop-set-lt, drop_more, drop_more_same, in_ranges, is_between, nat_tests, IsNonDecreasingBy, IsNonDecreasingBy-drop}
use Rattle.vic_tree.proofs.RangeLaws.{no_run, none_ahead, ranges_pushed, run_pushed}
use Rattle.vic_tree.proofs.ranges.complement_in_order.Goals as goal
use Rattle.vic_tree.proofs.ranges.complement_in_order.Goals.{then-from-first, else-from-first, then-from+in_ok-push, else-from}

-- a key from `from` on: whether it is in a range at all, from the next one on, and behind that, from x to y
module _ (all ahead behind : Bool) (from x y to k : ℕ) (reach : to ≡ max from (y + 1)) (low : from ≤ k) (same : ahead ≡ all) (next : ahead ≡ (is_between x y k || behind)) where
  is_gap : from < x → k < to → (k < x → ahead ≡ false) → not all ≡ is_between from (x - 1) k
  is_gap lt high none = grind (arith, nat_tests)

  no_gap : x ≤ from → k < to → not all ≡ false
  no_gap le high = grind (arith, nat_tests)

  passed_more : to ≤ k → behind ≡ all
  passed_more le = grind (arith, nat_tests)

pub loop-i-preserved : goal.loop-i-preserved
loop-i-preserved c =
    let rs = c.args.ranges.items in
    let xs = c.loop-i.gaps.items in
    let m = c.loop-i.count in
    let n = c.loop-i.i in
    let r = c.index.result.now in
    let from = c.loop-i.from in
    let to = c.max-from.result in
    let inv = c.loop-i.invariant in
    let lt : n < length xs = omega (arith, c.loop-i-test.true, inv.len) in
    let split : drop n xs ≡ r ∷ drop (n + 1) xs = drop_more xs n r lt ∙ ap (λ (q : ℕ × ℕ). q ∷ drop (n + 1) xs) (sym c.index.ensures) in
    let rest : drop (n + 1) xs ≡ drop (n + 1) rs = drop_more_same xs rs n inv.rest in
    let ahead : drop n rs ≡ r ∷ drop (n + 1) rs = sym inv.rest ∙ split ∙ ap (λ (qs : List (ℕ × ℕ)). r ∷ qs) rest in
    let first : c.first.result ≡ r.0 = c.first.ensures.value in
    let reach : to ≡ max from (r.1 + 1) = c.max-from.ensures ∙ ap (λ (x : ℕ). max from (x + 1)) c.last.ensures.value in
    let forward : r.0 ≤ r.1 = c.first.ensures.is_range.0 in
    let small : r.1 < 2 ^ 56 = c.first.ensures.is_range.1 in
    let next : (k : ℕ) → in_ranges (drop n rs) k ≡ (is_between r.0 r.1 k || in_ranges (drop (n + 1) rs) k) = λ k. ap (λ (qs : List (ℕ × ℕ)). in_ranges qs k) ahead in
    let none : (k : ℕ) → k < r.0 → in_ranges (drop n rs) k ≡ false = λ k l. rw ahead (none_ahead (drop (n + 1) rs) r k (subst (IsNonDecreasingBy (λ (q : ℕ × ℕ). q.0)) ahead (IsNonDecreasingBy-drop (λ (q : ℕ × ℕ). q.0) n rs c.requires)) l) in
    let passed : (k : ℕ) → to ≤ k → in_ranges (drop (n + 1) rs) k ≡ in_ranges rs k = λ k le. let low : from ≤ k = omega (arith, reach, le) in passed_more _ _ _ from r.0 r.1 to k reach low (inv.passed k low) (next k) le in
    elim c.if-from-first.branch [
      | then-from-first w ↦
          let l : from < r.0 = rw first at w.if-from-first.true in
          let new : w.new.result ≡ (from, r.0 - 1) = w.new.ensures ∙ ap (λ (x : ℕ). (from, x - 1)) w.first-then-from-first.ensures.value in
          rw (w.count-is, w.gaps-is) (record {
            within = omega (arith, inv.within);
            len = length-set xs m w.new.result ∙ inv.len;
            rest = drop-set-lt (n + 1) xs m w.new.result (omega (arith, inv.within)) ∙ rest;
            runs = rw (take_more_set xs m w.new.result (omega (arith, inv.within, lt)), new) (run_pushed _ from from (r.0 - 1) to (take m xs) inv.runs (omega arith) (omega arith) (omega (arith, small, forward)) (omega (arith, reach, forward, l)) (λ k low high. is_gap _ _ _ from r.0 r.1 to k reach low (inv.passed k low) (next k) l high (none k)));
            passed = passed;
            small = omega (arith, reach, small, inv.small);
          })
      | else-from-first w ↦
          let le : r.0 ≤ from = rw first at w.if-from-first.false in
          rw (w.count-is, w.gaps-is) (record {
            within = omega (arith, inv.within);
            len = inv.len;
            rest = rest;
            runs = no_run _ from to (take m xs) inv.runs (omega (arith, reach)) (λ k low high. no_gap _ _ _ from r.0 r.1 to k reach low (inv.passed k low) (next k) le high);
            passed = passed;
            small = omega (arith, reach, small, inv.small);
          })
    ]

pub returns-clause-ranges : goal.returns-clause-ranges
returns-clause-ranges c =
    let inv = c.loop-i.invariant in
    elim c.if-from.branch [
      | then-from+in_ok-push w ↦ rw (w.gaps-is, w.in_ok-push.ensures.items, c.truncate.ensures.items, w.new-then-from.ensures) (ranges_pushed 0 (take c.loop-i.count c.loop-i.gaps.items) c.loop-i.from (2 ^ 56 - 1) inv.runs.ranges inv.runs.ends (omega arith) (omega (arith, w.if-from.true)) (omega arith))
      | else-from w ↦ rw (w.gaps-is, c.truncate.ensures.items) inv.runs.ranges
    ]
