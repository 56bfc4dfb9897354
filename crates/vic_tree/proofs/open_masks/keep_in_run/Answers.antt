use Rattle.vic_tree.proofs.Words.{◌≡◌, ◌∙◌, ◌+◌, ◌<◌, ◌⊎◌, List, length, get_or, ap, Some, sym, arith, BitMask, mirror_bits, IsMaximalIn}
use Rattle.vic_tree.proofs.BlockLaws.{mask_block}
use Rattle.vic_tree.proofs.FirstMasks.{kept_both, none_kept, past_last, rest_kept}
use Rattle.vic_tree.proofs.OpenBlocks.{maximal_of_len}
use Rattle.vic_tree.proofs.open_masks.keep_in_run.Goals as goal

pub loop-len-init : goal.loop-len-init
loop-len-init c = record {
  keeps = none_kept (λ m. IsMaximalIn c.args.run.0 c.args.run.1 m × (m.len < c.least_len-len.result)) c.args.kept.now.items c.requires.kept
      (λ m w. absurd (c.least_len-len.ensures.none m.len (mirror_bits m.len m.value) w.1 (mask_block c.args.run.0 c.args.run.1 m w.0.inside.0 w.0.inside.1 w.0.inside.2)));
  kept = c.requires.kept;
  most = omega (arith, c.least_len-len.ensures.short);
}

pub returns-then-len-clause-keeps : goal.returns-then-len-clause-keeps
returns-then-len-clause-keeps c =
    let ms = c.loop-len.kept.items in
    let len = c.loop-len.len in
    let last = c.index-deref.result in
    let inv = c.loop-len.invariant in
    let full : length ms ≡ 17 = sym c.len.ensures.value ∙ c.if-len-eq-KEPT.true in
    let is : last ≡ get_or ms 16 last = c.index-deref.is ∙ ap (λ (xs : List BitMask). get_or xs 16 last) c.deref.ensures.0 in
    let short : last.len < len = omega arith in
    rest_kept (IsMaximalIn c.args.run.0 c.args.run.1) len c.args.kept.now.items ms inv.kept inv.keeps
    (λ m g le. past_last ms last m inv.kept.0 full is (omega (arith, le, short), λ e. absurd (omega (arith, le, short))))

pub loop-len-preserved : goal.loop-len-preserved
loop-len-preserved c =
    let first = c.args.run.0 in
    let last = c.args.run.1 in
    let len = c.loop-len.len in
    let a = c.maximal_at_start in
    let b = c.maximal_at_end in
    let one = kept_both (λ m. IsMaximalIn first last m × (m.len < len)) (λ m. a.result ≡ Some m) (λ m. (IsMaximalIn first last m × (m.len < len)) ⊎ (a.result ≡ Some m)) _ _ _ (λ m. (λ w. w, λ w. w)) c.loop-len.invariant.keeps c.keep.ensures.keeps in
    let told = maximal_of_len first last len a.result b.result a.ensures.found a.ensures.only b.ensures.found b.ensures.only in
    record {
      keeps = kept_both (λ m. (IsMaximalIn first last m × (m.len < len)) ⊎ (a.result ≡ Some m)) (λ m. b.result ≡ Some m) (λ m. IsMaximalIn first last m × (m.len < len + 1)) _ _ _ told one c.keep-in-loop-len.ensures.keeps;
      kept = c.keep-in-loop-len.ensures.kept;
      most = omega (arith, c.loop-len-test.true);
    }

pub returns-clause-keeps : goal.returns-clause-keeps
returns-clause-keeps c =
    let inv = c.loop-len.invariant in
    rest_kept (IsMaximalIn c.args.run.0 c.args.run.1) c.loop-len.len c.args.kept.now.items c.loop-len.kept.items inv.kept inv.keeps
    (λ m g le. absurd (omega (arith, g.inside.1, le, c.loop-len-test.false)))
