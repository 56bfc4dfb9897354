use Rattle.vic_frame.proofs.MaskLaws.{nested_or_apart_lem}
use Rattle.vic_frame.proofs.mask_laws.nested_or_apart.Goals as goal

pub returns : goal.returns
returns c = nested_or_apart_lem
