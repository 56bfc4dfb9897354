use Rattle.vic_tree.proofs.FirstMasks.{widest_is_first}
use Rattle.vic_tree.proofs.set_laws.widest_mask_is_first_open.Goals as goal

pub returns : goal.returns
returns c = widest_is_first
