use Rattle.vic_tree.proofs.Words.{◌≡◌, ◌+◌, ◌<◌, ◌⊎◌, inl, inr, Some, arith, mirror_bits, IsMaximalIn}
use Rattle.vic_tree.proofs.AllMasks.{adds_both}
use Rattle.vic_tree.proofs.BlockLaws.{mask_block}
use Rattle.vic_tree.proofs.OpenBlocks.{maximal_of_len}
use Rattle.vic_tree.proofs.open_masks.push_in_run.Goals as goal

pub loop-len-init : goal.loop-len-init
loop-len-init c = record {
  adds = λ m. (
    λ w. elim w [
      | inl old ↦ old
      | inr g ↦ absurd (c.least_len-len.ensures.none m.len (mirror_bits m.len m.value) g.1 (mask_block c.args.run.0 c.args.run.1 m g.0.inside.0 g.0.inside.1 g.0.inside.2))
    ],
    λ old. inl old,
  );
  most = inr (λ m g lt. c.least_len-len.ensures.none m.len (mirror_bits m.len m.value) lt (mask_block c.args.run.0 c.args.run.1 m g.inside.0 g.inside.1 g.inside.2));
}

pub loop-len-preserved : goal.loop-len-preserved
loop-len-preserved c =
    let first = c.args.run.0 in
    let last = c.args.run.1 in
    let len = c.loop-len.len in
    let a = c.maximal_at_start in
    let b = c.maximal_at_end in
    let one = adds_both (λ m. IsMaximalIn first last m × (m.len < len)) (λ m. a.result ≡ Some m) (λ m. (IsMaximalIn first last m × (m.len < len)) ⊎ (a.result ≡ Some m)) _ _ _ (λ m. (λ w. w, λ w. w)) c.loop-len.invariant.adds c.in_ok-push_found.ensures in
    let told = maximal_of_len first last len a.result b.result a.ensures.found a.ensures.only b.ensures.found b.ensures.only in
    record {
      adds = adds_both (λ m. (IsMaximalIn first last m × (m.len < len)) ⊎ (a.result ≡ Some m)) (λ m. b.result ≡ Some m) (λ m. IsMaximalIn first last m × (m.len < len + 1)) _ _ _ told one c.in_ok-push_found-2.ensures;
      most = inl (omega (arith, c.loop-len-test.true));
    }

pub returns : goal.returns
returns c m =
    let inv = c.loop-len.invariant in (
      λ w. (inv.adds m).0 (elim w [ inl old ↦ inl old | inr g ↦ inr (g.0, omega (arith, g.1, c.loop-len-test.false)) ]),
      λ h. elim ((inv.adds m).1 h) [
        | inl old ↦ inl old
        | inr g ↦ inr (g.0, elim inv.most [ inl le ↦ omega (arith, g.1, le) | inr none ↦ absurd (none m g.0 g.1) ])
      ],
    )
