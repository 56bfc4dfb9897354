use Rattle.vic_tree.proofs.Words.{◌≡◌, ℕ, ◌<◌, ◌≤◌, List, get_or, length, length-drop, inl, inr, refl, min, take, ap, arith, get_or-take, length-take, cases_lt, get_or_default, take_rest}
use Rattle.vic_tree.proofs.RangeLaws.{begins_ahead, lasts_rise, ranges_taken, rest_dropped}
use Rattle.vic_tree.proofs.ranges.skip_to.Goals as goal
use Rattle.vic_tree.proofs.ranges.skip_to.Goals.{then-loop-step-test+else-last-key, else-loop-step-test}

pub returns-then-key-last-clause-same : goal.returns-then-key-last-clause-same
returns-then-key-last-clause-same c =
    let es = c.args.ranges.now in
    rw (take_rest es c.loop-i.i) (rest_dropped c.args.key es es c.loop-i.i (record { ranges = c.requires; same = λ k from. refl }) c.loop-i.invariant).same

pub loop-step-init : goal.loop-step-init
loop-step-init c =
    let es = c.args.ranges.now in
    let n = c.min-near.result in
    rw (take_rest es n) (record {
      step = omega arith;
      shorter = omega (arith, length-drop n es);
      rest = rest_dropped c.args.key es es n (record { ranges = c.requires; same = λ k from. refl }) (λ i d lt. c.loop-i.invariant i d (omega (arith, lt, c.loop-i-test.false)));
    })

pub loop-step-preserved : goal.loop-step-preserved
loop-step-preserved c =
    let es = c.loop-step.ahead.now in
    let n = c.loop-step.step in
    let inv = c.loop-step.invariant in
    let r = c.index-ahead-step.result in
    let last : (get_or es n r).1 < c.args.key = omega (arith, ap (λ (r : ℕ × ℕ). r.1) c.index-ahead-step.is, c.last-in-loop-step.ensures.value, c.if-last-key.true) in
    rw (take_rest es n) record {
      step = omega (arith, inv.step);
      shorter = omega (arith, length-drop n es, inv.shorter);
      rest = rest_dropped c.args.key c.args.ranges.now es n inv.rest (λ i d lt. omega (arith, last, lasts_rise 0 es inv.rest.ranges i n r (omega (arith, lt)) c.loop-step-test.true, ap (λ (r : ℕ × ℕ). r.1) (get_or_default es i d r (omega (arith, lt, c.loop-step-test.true)))));
    }

pub count_before-requires : goal.count_before-requires
count_before-requires c = ranges_taken 0 c.loop-step.ahead.now c.min.result c.loop-step.invariant.rest.ranges

-- the first that doesn't end before the key is among those nearby, or comes right after them
first_ahead : (es : List (ℕ × ℕ)) (near n step key : ℕ) → near ≡ min step (length es) → n ≤ length (take near es)
    → ((d : ℕ × ℕ) → n < length (take near es) → key ≤ (get_or (take near es) n d).1) → ((d : ℕ × ℕ) → step < length es → key ≤ (get_or es step d).1)
    → (d : ℕ × ℕ) → n < length es → key ≤ (get_or es n d).1
first_ahead es near n step key is within ahead next d lt =
    let count = length-take near es in
    elim (cases_lt n near) [
      | inl few ↦ rw (get_or-take near es n d few) at (ahead d (omega arith))
      | inr all ↦ let at : n ≡ step = omega arith in rw at (next d (omega arith))
    ]

pub returns : goal.returns
returns c =
    let es = c.loop-step.ahead.now in
    let near = c.min.result in
    let n = c.count_before.result in
    let found = c.count_before.ensures in
    let next : (d : ℕ × ℕ) → c.loop-step.step < length es → c.args.key ≤ (get_or es c.loop-step.step d).1 = λ d lt. elim c.loop-step-test.branch [
      | then-loop-step-test+else-last-key w ↦
          let r = w.index-ahead-step.result in
          omega (arith, ap (λ (r : ℕ × ℕ). r.1) (get_or_default es c.loop-step.step d r lt), ap (λ (r : ℕ × ℕ). r.1) w.index-ahead-step.is, w.last-in-loop-step.ensures.value, w.if-last-key.false)
      | else-loop-step-test w ↦ absurd (omega (arith, lt, w.loop-step-test.false))
    ] in
    let rest = rest_dropped c.args.key c.args.ranges.now es n c.loop-step.invariant.rest (λ i d lt. omega (arith, found.before i d lt, ap (λ (r : ℕ × ℕ). r.1) (get_or-take near es i d (omega (arith, lt, found.within, length-take near es))))) in
    rw (take_rest es n) record {
      ranges = rest.ranges;
      ahead = begins_ahead es n c.args.key (first_ahead es near n c.loop-step.step c.args.key c.min.ensures found.within found.ahead next);
      same = rest.same;
    }
