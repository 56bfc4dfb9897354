use Rattle.vic_tree.proofs.Words.{◌≤◌, IfOk-weaker, AreAll, IsOpenMask, without_keys, is_open_in}
use Rattle.vic_tree.proofs.TallyLaws.{all_like}
use Rattle.vic_tree.proofs.open_masks.all_open_masks_left.Goals as goal

pub returns : goal.returns
returns c =
    let P = IsOpenMask (without_keys (is_open_in c.args.ranges.now) c.args.removed.now) in
    IfOk-weaker c.open_masks_up_to.result (λ masks. AreAll (λ m. P m × (m.len ≤ 56)) masks.items) (λ masks. AreAll P masks.items) (λ masks all. all_like (λ m. P m × (m.len ≤ 56)) P masks.items (λ m. (λ w. w.0, λ o. (o, o.short))) all) c.open_masks_up_to.ensures
