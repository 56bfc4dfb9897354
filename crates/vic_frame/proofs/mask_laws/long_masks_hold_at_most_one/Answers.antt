use Rattle.vic_frame.proofs.Words.{◌∙◌, sym, arith}
use Rattle.vic_frame.proofs.MaskLaws.{is_only}
use Rattle.vic_frame.proofs.mask_laws.long_masks_hold_at_most_one.Goals as goal

pub returns : goal.returns
returns c m long u v p q h k = is_only m u (omega arith) p h ∙ sym (is_only m v (omega arith) q k)
