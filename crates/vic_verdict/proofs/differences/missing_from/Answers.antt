use Rattle.vic_verdict.proofs.Words.{[], ◌∷◌, ◌++◌, ◌+◌, ◌<◌, ◌≤◌, ◌≡◌, ◌==◌, ◌∙◌, Bool, List, nat_tests, get_or_default, ℕ, append-nil, ap, arith, false, filter, filter_more, get_or, has, length, not, sym, take, take_all, true}
use Rattle.std.specs.Ordering.{is_lt, nat_cmp}
use Rattle.std.proofs.lemmas.Map.Keys.{ge_from_not_lt}
use Rattle.vic_verdict.proofs.Failing.{failing_list}
use Rattle.vic_verdict.proofs.Merging.{IsIndexOf, below_next, is_here, is_past}
use Rattle.vic_verdict.proofs.differences.missing_from.Goals as goal
use Rattle.vic_verdict.proofs.differences.missing_from.Goals.{then-loop-next-test+else-lt, else-loop-next-test, then-next-others+in_ok-push, then-next-others-via-then-next-others, then-next-others-via-else-next-others+then-ne, else-next-others+else-ne}

is_missing : (vs us old : List ℕ) (i u : ℕ) → i < length us → u ≡ get_or us i u → has vs u ≡ false → old ≡ filter (λ v. not (has vs v)) (take i us) → old ++ u ∷ [] ≡ filter (λ v. not (has vs v)) (take (i + 1) us)
is_missing vs us old i u lt is new h = rw (filter_more (λ v. not (has vs v)) us i u lt, ← is, new, h)

is_known : (vs us old : List ℕ) (i u : ℕ) → i < length us → u ≡ get_or us i u → has vs u ≡ true → old ≡ filter (λ v. not (has vs v)) (take i us) → old ≡ filter (λ v. not (has vs v)) (take (i + 1) us)
is_known vs us old i u lt is old_one h = rw (filter_more (λ v. not (has vs v)) us i u lt, ← is, old_one, append-nil) h

at_least : (xs : List ℕ) (n u x : ℕ) → n < length xs → x ≡ get_or xs n x → is_lt (nat_cmp x u) ≡ false → u ≤ get_or xs n 0
at_least xs n u x short is h =
    let here : get_or xs n 0 ≡ x = get_or_default xs n 0 x short ∙ sym is in
    let ge : u ≤ x = ge_from_not_lt x u h in
    omega arith

not_true : (b : Bool) → not b ≡ true → b ≡ false
not_true b h = grind (arith, nat_tests)

not_false : (b : Bool) → not b ≡ false → b ≡ true
not_false b h = grind (arith, nat_tests)

pub loop-uid-preserved : goal.loop-uid-preserved
loop-uid-preserved c =
    let us = c.args.uids.now in
    let vs = c.args.others.now in
    let i = c.loop-uid.uid-index in
    let u = c.uid-item.result in
    let next = c.loop-next.next in
    let uids = c.as_slice-uid-items.ensures in
    let others = c.as_slice-others.ensures in
    let within = rw uids.value at c.loop-uid-test.true in
    let is = rw uids.value at c.uid-item.is in
    let rising = others.rising in
    let above : next < length vs → u ≤ get_or vs next 0 = λ short. elim c.loop-next-test.branch [
      | then-loop-next-test+else-lt w ↦ at_least vs next u w.index-others-next.result short (rw others.value at w.index-others-next.is) (sym w.lt.ensures ∙ w.if-lt.false)
      | else-loop-next-test w ↦ absurd (omega (arith, rw others.value at w.loop-next-test.false))
    ] in
    let index : IsIndexOf vs next u = record {
      within = rw others.value at c.loop-next.invariant.within;
      below = rw others.value at c.loop-next.invariant.below;
      above = above;
    } in
    let past : next ≡ length vs → has vs u ≡ false = λ end. is_past vs next u rising index (omega arith) in
    let here : (x : ℕ) → (next ≡ length vs → ⊥) → x ≡ get_or vs next x → (x == u) ≡ has vs u = λ x ne at. is_here vs next u x rising index (omega (arith, index.within)) at in
    record {
      within = c.loop-next.invariant.within;
      below = λ short. rw others.value (below_next us vs i next u uids.rising short is index.below);
      items = elim c.if-next-others.branch [
        | then-next-others+in_ok-push w ↦ rw (w.missing-is, w.in_ok-push.ensures.items) (is_missing vs us c.loop-uid.missing.items i u within is (elim w.then-next-others.branch [
          | then-next-others-via-then-next-others w' ↦ past (rw others.value at w'.if-next-others.true)
          | then-next-others-via-else-next-others+then-ne w' ↦ sym (here w'.index-others-next-else-next-others.result (rw others.value at w'.if-next-others.false) (rw others.value at w'.index-others-next-else-next-others.is)) ∙ not_true (w'.index-others-next-else-next-others.result == u) (sym w'.ne.ensures ∙ w'.if-ne.true)
        ]) c.loop-uid.invariant.items)
        | else-next-others+else-ne w ↦ rw w.missing-is (is_known vs us c.loop-uid.missing.items i u within is (sym (here w.index-others-next-else-next-others.result (rw others.value at w.if-next-others.false) (rw others.value at w.index-others-next-else-next-others.is)) ∙ not_false (w.index-others-next-else-next-others.result == u) (sym w.ne.ensures ∙ w.if-ne.false)) c.loop-uid.invariant.items)
      ];
    }

pub returns : goal.returns
returns c =
    let us = c.args.uids.now in
    let vs = c.args.others.now in
    let uids = c.as_slice-uid-items.ensures in
    let end = rw uids.value at c.loop-uid-test.false in
    let list = failing_list (has vs) us c.loop-uid.missing.items uids.rising (c.loop-uid.invariant.items ∙ ap (filter (λ v. not (has vs v))) (take_all c.loop-uid.uid-index us (omega (arith, end)))) in
    record { rising = c.of.ensures.rising; members = λ u. rw (c.of.ensures.members u) (list.members u) }
