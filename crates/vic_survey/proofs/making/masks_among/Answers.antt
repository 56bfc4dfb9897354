use Rattle.vic_tree.specs.OpenMasks.{AreAll, IsOpenMask}
use Rattle.vic_tree.specs.OpenSet.{without_keys}
use Rattle.vic_tree.specs.Ranges.{is_open_in}
use Rattle.vic_survey.proofs.ValueWords.{[], has}
use Rattle.vic_survey.proofs.Made.{if_ok_more}
use Rattle.vic_survey.proofs.Throughout.{among}
use Rattle.vic_survey.proofs.making.masks_among.Goals as goal

pub returns : goal.returns
returns c = if_ok_more (λ ms. AreAll (IsOpenMask (without_keys (is_open_in c.in_ok-set.set) [])) ms.items) (λ ms. AreAll (IsOpenMask (has c.args.uids.now)) ms.items) c.all_open_masks_besides-2.result (λ ms all.
    among c.args.uids.now c.in_ok-keys.keys c.in_ok-everything.field-0 c.in_ok-others.others c.in_ok-set.set ms.items
    c.in_ok-keys.ensures c.in_ok-everything.ensures c.in_ok-others.ensures (rw (c.in_ok-from_slice.ensures.items, c.ranges-2.ensures) at c.in_ok-set.ensures) all) (rw c.none.ensures at c.all_open_masks_besides-2.ensures)
