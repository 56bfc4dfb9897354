use Rattle.vic_sets.proofs.Words.{◌≡◌, ◌∙◌, Bool, not, cond, false, ◌&&◌, ◌||◌, ℕ, sym, ap, nat_eq, eqb-true, arith, nat_tests, has, lies_in, open_at, any-filter_same, take, take_all, List, mod-eq_of_lt}
use Rattle.vic_sets.proofs.mask_tree.MaskTreeOpenSet.settle.Goals as goal

-- what is open once a mask is closed and its exceptions are opened again
settled_bits : (l o a : Bool) → (((l && o) && a) || cond l false o) ≡ (o && (not l || a))
settled_bits l o a = grind (arith, nat_tests)

pub returns-clause-done : goal.returns-clause-done
returns-clause-done c u is_uid =
    let old = c.replace-root.result in
    let mask = c.in-Some.mask in
    let p = λ (x : ℕ). lies_in mask x && open_at old x in
    let kept : has c.deref-uid-items.result.now u ≡ (p u && has c.args.except.now u) = rw (c.deref-uid-items.ensures.value, c.in_ok-kept.ensures) (any-filter_same (nat_eq u) p (p u) (λ x h. ap p (sym (eqb-true u x h))) c.args.except.now) in
    let closed : open_at c.fill.new.node u ≡ cond (lies_in mask u) false (open_at old u) = rw (c.len.ensures.value, c.value.ensures.value, mod-eq_of_lt c.len.ensures.is_mask.1) at (c.in_ok-fill.ensures.opened u) in
    let all : has (take c.loop-uid.uid-index c.deref-uid-items.result.now) u ≡ has c.deref-uid-items.result.now u = ap (λ (us : List ℕ). has us u) (take_all _ _ c.loop-uid-test.false) in
    let was : open_at old u ≡ open_at c.args.self.now u = ap (λ n. open_at n u) (c.replace-root.ensures.value ∙ c.self.view_is) in
    c.loop-uid.invariant.opened u is_uid ∙ rw (all, kept, closed, was, c.in-Some.ensures.same u is_uid) (settled_bits (lies_in c.args.mask.now u) (open_at c.args.self.now u) (has c.args.except.now u))
