use Rattle.vic_frame.proofs.ResidueLaws.{residue}
use Rattle.vic_frame.proofs.laws.crc_right_by_register.Goals as goal

pub returns : goal.returns
returns c = residue
