use Rattle.vic_tree.proofs.Words.{◌≡◌, ℕ, List, ◌<◌, inl, inr, true, length, has, sym, subst, arith, cases_lt, mirror, IsStretch}
use Rattle.vic_tree.proofs.spaced_keys.SpacedKeys.pass.Goals as goal
use Rattle.vic_tree.proofs.spaced_keys.SpacedKeys.pass.Goals.{then-free-last+else-free-first+else-not-is_past, else-free-last}

pub loop-at-preserved : goal.loop-at-preserved
loop-at-preserved c =
    let inv = c.loop-at.invariant in
    let keys = c.args.self.now in
    let s = c.index-stretch.result.now in
    let lt : c.loop-at.at < length c.self.inside.stretches.items = omega (arith, c.loop-at-test.true, c.len.ensures) in
    let stretch : IsStretch keys s =
    subst (λ (ks : List ℕ). IsStretch ks s) c.self.view_is (subst (IsStretch c.self.inside.keys) (sym c.index-stretch.ensures) (c.self.invariant c.loop-at.at s lt)) in
    elim c.if-free-last.branch [
      | then-free-last+else-free-first+else-not-is_past w ↦ rw w.free-is record {
        from = omega (arith, inv.from);
        past = λ m f lt. elim (cases_lt (mirror m.value) c.loop-at.free) [
          | inl below ↦ inv.past m f below
          | inr at ↦ w.is_past.ensures w.if-not-is_past.false m (stretch.least m (record { is_mask = f.is_mask; short = f.short; begins = omega arith; free = f.free }) (omega arith))
        ];
        cut = λ k e. inr (subst (λ (x : ℕ). has keys x ≡ true) (let at : s.range.1 ≡ k = omega arith in at) stretch.ends);
      }
      | else-free-last w ↦ rw w.free-is inv
    ]
