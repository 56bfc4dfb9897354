use Rattle.vic_tree.proofs.OpenMaskLaws.{apart}
use Rattle.vic_tree.proofs.set_laws.open_masks_are_apart.Goals as goal

pub returns : goal.returns
returns c = apart
