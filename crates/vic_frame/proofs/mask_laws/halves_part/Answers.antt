use Rattle.vic_frame.proofs.MaskLaws.{parted}
use Rattle.vic_frame.proofs.mask_laws.halves_part.Goals as goal

pub returns : goal.returns
returns c = parted
