use Rattle.vic_field.proofs.Words.{HasNoSlotsBefore}
use Rattle.vic_field.proofs.session.first_slot.Given as goal

abbrev pub invariant-loop-line : goal.invariant-loop-line
invariant-loop-line l = HasNoSlotsBefore l.line-index l.lines
