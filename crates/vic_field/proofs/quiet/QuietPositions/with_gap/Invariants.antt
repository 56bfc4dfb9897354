use Rattle.vic_field.proofs.Words.{is_quiet_position, HasRoomFor}
use Rattle.vic_field.proofs.PositionLaws.{IsGapped}
use Rattle.vic_field.proofs.quiet.QuietPositions.with_gap.Given as goal

abbrev pub invariant-loop-next : goal.invariant-loop-next
invariant-loop-next l = record {
  room : HasRoomFor l.count l.moved;
  gapped : IsGapped l.gap l.next (is_quiet_position l.self) (is_quiet_position l.moved);
}
