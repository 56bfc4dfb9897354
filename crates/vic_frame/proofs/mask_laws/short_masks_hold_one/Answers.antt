use Rattle.vic_frame.proofs.MaskLaws.{short_holds}
use Rattle.vic_frame.proofs.mask_laws.short_masks_hold_one.Goals as goal

pub returns : goal.returns
returns c = short_holds
