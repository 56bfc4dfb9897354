use Rattle.vic_program.proofs.InTurn.{part_read}
use Rattle.vic_program.proofs.texts.text_of.Goals as goal

pub returns-in_err-extend_from_slice-clause-part : goal.returns-in_err-extend_from_slice-clause-part
returns-in_err-extend_from_slice-clause-part g c =
    part_read c.from_residual-in_err-extend_from_slice.result _ _ _ _ _ c.loop-turn.invariant.grows c.read.ensures.returned
