use Rattle.vic_sets.proofs.Words.{◌≡◌, ◌∙◌, refl, Box, Global, Node, Fork', Full, Empty, Fork, Halves, IsFork, ap, sym, cond, ◌/◌, ◌^◌, ◌%◌, ◌==◌, max, arith, open_at, height}
use Rattle.vic_sets.proofs.Bits.{fill_zero, fill_one}
use Rattle.vic_sets.proofs.node.+fill.Goals as goal
use Rattle.vic_sets.proofs.node.+fill.Goals.{in-Fork+then-value-eq0+in_ok-fill, in-Fork+else-value-eq0+in_ok-fill-2, in_default-node}

-- what is no fork isn't one
no_fork : (n : Node) → IsFork n → ((x : Box Halves Global) → n ≡ Fork x → ⊥) → ⊥
no_fork Full f h = f
no_fork Empty f h = f
no_fork (Fork' p zero one) f h = h (record { ptr = p.ptr; alloc = p.alloc; value = record { zero = zero; one = one } }) refl

pub returns-clause-height : goal.returns-clause-height
returns-clause-height t c = elim c.match-node-3.branch [
  | in-Fork+then-value-eq0+in_ok-fill w ↦ omega (arith, c.merge.ensures.not_higher, ap height w.node-is, w.in_ok-fill.ensures.height, ap (λ h. max (height h.zero) (height h.one)) w.deref_mut.ensures.value, ap height w.in-Fork.is, c.in_ok-split.ensures.height)
  | in-Fork+else-value-eq0+in_ok-fill-2 w ↦ omega (arith, c.merge.ensures.not_higher, ap height w.node-is, w.in_ok-fill-2.ensures.height, ap (λ h. max (height h.zero) (height h.one)) w.deref_mut-else-value-eq0.ensures.value, ap height w.in-Fork.is, c.in_ok-split.ensures.height)
  | in_default-node w ↦ absurd (no_fork c.split.new.node c.in_ok-split.ensures.fork w.in_default-node.not-Fork)
]

pub returns-clause-opened : goal.returns-clause-opened
returns-clause-opened t c u = c.merge.ensures.same u ∙ elim c.match-node-3.branch [
  | in-Fork+then-value-eq0+in_ok-fill w ↦
      let old = w.deref_mut.result.now in
      ap (λ n. open_at n u) w.node-is
      ∙ fill_zero c.args.opens (open_at old.zero) (open_at w.fill.new.node) (open_at old.one) u c.args.len c.args.value (omega arith) w.if-value-eq0.true w.in_ok-fill.ensures.opened
      ∙ ap (λ b. cond (u % 2 ^ c.args.len == c.args.value % 2 ^ c.args.len) c.args.opens b) (ap (λ h. cond (u % 2 == 0) (open_at h.zero (u / 2)) (open_at h.one (u / 2))) w.deref_mut.ensures.value ∙ sym (ap (λ n. open_at n u) w.in-Fork.is) ∙ c.in_ok-split.ensures.same u)
  | in-Fork+else-value-eq0+in_ok-fill-2 w ↦
      let old = w.deref_mut-else-value-eq0.result.now in
      ap (λ n. open_at n u) w.node-is
      ∙ fill_one c.args.opens (open_at old.zero) (open_at old.one) (open_at w.fill-else-value-eq0.new.node) u c.args.len c.args.value (omega arith) w.if-value-eq0.false w.in_ok-fill-2.ensures.opened
      ∙ ap (λ b. cond (u % 2 ^ c.args.len == c.args.value % 2 ^ c.args.len) c.args.opens b) (ap (λ h. cond (u % 2 == 0) (open_at h.zero (u / 2)) (open_at h.one (u / 2))) w.deref_mut-else-value-eq0.ensures.value ∙ sym (ap (λ n. open_at n u) w.in-Fork.is) ∙ c.in_ok-split.ensures.same u)
  | in_default-node w ↦ absurd (no_fork c.split.new.node c.in_ok-split.ensures.fork w.in_default-node.not-Fork)
]
