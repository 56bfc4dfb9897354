use Rattle.vic_tree.proofs.Words.{◌≡◌, ◌==◌, ℕ, take, ap, arith, take_all, IsOpenMask}
use Rattle.vic_tree.proofs.FirstMasks.{first_taken, given_is, given_more}
use Rattle.vic_tree.proofs.open_masks.first_of_kept.Goals as goal

pub returns : goal.returns
returns c =
    let ms = c.args.kept.now.items in
    let all = take_all c.loop-mask.mask-index (take c.min.result c.deref.result.now) c.loop-mask-test.false in
    let is : c.loop-mask.masks.items ≡ take 16 ms = rw (c.loop-mask.invariant.items, all, c.min.ensures, c.len.ensures.value, c.deref.ensures.0) (given_is ms) in
    record {
      first = λ set f. rw is (first_taken 16 17 (IsOpenMask set) ms (omega arith) f);
      more = λ set. given_more (IsOpenMask set) ms c.loop-mask.masks.items _ c.requires (ap (λ (n : ℕ). n == 17) c.len-2.ensures.value) is;
    }
