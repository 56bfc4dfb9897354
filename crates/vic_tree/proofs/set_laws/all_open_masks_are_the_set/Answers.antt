use Rattle.vic_tree.proofs.OpenMaskLaws.{all_held}
use Rattle.vic_tree.proofs.set_laws.all_open_masks_are_the_set.Goals as goal

pub returns : goal.returns
returns c = all_held
