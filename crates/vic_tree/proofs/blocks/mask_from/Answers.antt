use Rattle.vic_tree.proofs.Words.{◌≡◌, ℕ, ◌+◌, ◌-◌, ◌%◌, ◌∙◌, inl, inr, ap, arith, cases_lt, mod-one}
use Rattle.vic_tree.proofs.BlockLaws.{twice}
use Rattle.vic_tree.proofs.blocks.mask_from.Goals as goal

pub loop-len-preserved : goal.loop-len-preserved
loop-len-preserved c =
    let l = c.loop-len.len in
    let first = c.first-first.result in
    elim (cases_lt l 56) [
      | inl lt ↦ let back : l + 1 - 1 ≡ l = omega arith in let half = rw back at (twice (l + 1) (omega arith) (omega arith)) in record { short = omega arith; fits = omega (arith, half, c.loop-len.invariant.fits) }
      | inr whole ↦
          let same : l ≡ 56 = omega (arith, whole, c.loop-len.invariant.short) in
          let one : c.size_of_block.result ≡ 1 = rw same at c.size_of_block.ensures.value in
          absurd (c.loop-len-test.true (ap (λ (x : ℕ). first % x) one ∙ mod-one first))
    ]
