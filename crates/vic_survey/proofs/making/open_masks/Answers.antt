use Rattle.vic_survey.proofs.ValueWords.{[], List, BitMask}
use Rattle.std.specs.List.{Contains}
use Rattle.vic_tree.specs.OpenSet.{without_keys}
use Rattle.vic_tree.specs.Ranges.{is_open_in}
use Rattle.vic_survey.specs.inner.Kept.{AreKeptOf}
use Rattle.vic_survey.proofs.Made.{all_open, if_ok_more, masks_of}
use Rattle.vic_survey.proofs.making.open_masks.Goals as goal

pub returns : goal.returns
returns c =
    if_ok_more (AreKeptOf (λ m. ¬ (Contains c.in_ok-certain.certain.items m)) c.in_ok-masks.masks.items) _ c.masks_without.result (λ ms kept es told.
    masks_of es c.args.facts.now.«open» c.args.facts.now.met c.args.facts.now.certain c.in_ok-masks.masks.items c.in_ok-certain.certain.items ms told
    (rw c.none.ensures at c.in_ok-masks.ensures) (rw c.as_slice.ensures.value at c.in_ok-certain.ensures) kept) (rw c.deref.ensures.value at c.masks_without.ensures)

pub masks_without-requires-clause-masks : goal.masks_without-requires-clause-masks
masks_without-requires-clause-masks c = all_open (without_keys (is_open_in c.args.facts.now.«open») []) c.in_ok-masks.masks.items (rw c.none.ensures at c.in_ok-masks.ensures)

pub masks_without-requires-clause-others : goal.masks_without-requires-clause-others
masks_without-requires-clause-others c = rw c.deref.ensures.value c.in_ok-certain.ensures.rising
