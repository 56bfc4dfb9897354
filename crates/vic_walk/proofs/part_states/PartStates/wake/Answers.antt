use Rattle.vic_walk.proofs.Words.{◌≡◌, ◌<◌, ◌∙◌, ℕ, arith, cases_eq, false, get_or, inl, inr, length, length-set, list_any_at, list_any_more, nat_eq, nat_tests, true}
use Rattle.vic_walk.proofs.Ruling.{marked_at, marked_else}
use Rattle.vic_walk.proofs.part_states.PartStates.wake.Goals as goal

same_self : (p : ℕ) → nat_eq p p ≡ true
same_self p = grind (arith, nat_tests)

pub put-requires : goal.put-requires
put-requires c =
    let ps = c.args.self.now.quiet.items in
    let at = c.loop-quiet.quiet-index in
    let within : at < length ps = rw c.deref-quiet-items.ensures.value at c.loop-quiet-test.true in
    let short = c.args.self.now.listed (get_or ps at 0) (list_any_at (nat_eq (get_or ps at 0)) ps at 0 within (same_self _)) in
    rw c.deref-quiet-items.ensures.value (omega (arith, short, c.loop-quiet.invariant.room))

pub loop-quiet-preserved : goal.loop-quiet-preserved
loop-quiet-preserved c =
    let ps = c.args.self.now.quiet.items in
    let at = c.loop-quiet.quiet-index in
    let q = get_or ps at 0 in
    let marks = c.loop-quiet.self.1.0 in
    let put = rw c.deref-quiet-items.ensures.value at c.put.ensures in
    let within : at < length ps = rw c.deref-quiet-items.ensures.value at c.loop-quiet-test.true in
    let short = c.args.self.now.listed q (list_any_at (nat_eq q) ps at 0 within (same_self q)) in
    record {
      marked = λ p. rw (put, list_any_more (nat_eq p) ps at 0 within) (elim (cases_eq p q) [
        | inl here ↦ rw (here, marked_at marks q true (omega (arith, short, c.loop-quiet.invariant.room)), same_self q) (grind (arith, nat_tests))
        | inr other ↦
            let no : nat_eq p q ≡ false = grind (arith, nat_tests) in
            rw (marked_else marks q p true other, no, c.loop-quiet.invariant.marked p) (grind (arith, nat_tests))
      ]);
      room = rw put (length-set _ _ _ ∙ c.loop-quiet.invariant.room);
    }
