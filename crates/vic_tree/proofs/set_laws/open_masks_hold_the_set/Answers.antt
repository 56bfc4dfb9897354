use Rattle.vic_tree.proofs.OpenMaskLaws.{held}
use Rattle.vic_tree.proofs.set_laws.open_masks_hold_the_set.Goals as goal

pub returns : goal.returns
returns c = held
