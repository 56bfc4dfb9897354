use Rattle.vic_table.proofs.Words.{ℕ, ◌<◌, ◌≤◌, ◌-◌, List, length, drop}
use Rattle.vic_table.specs.declared.columns.Columns.TheVariants.{Places}
use Rattle.vic_table.specs.inner.Reading.{FollowsFirst}
use Rattle.vic_table.proofs.Reading.{AreRowsUpto}
use Rattle.vic_table.proofs.place_rows.read_place_rows.Given as goal

abbrev pub invariant-loop-at : goal.invariant-loop-at
invariant-loop-at l = record {
  some : 0 < l.number;
  limit : l.number ≤ 1000000;
  bound : l.next ≤ length l.text;
  read : (lines : List (List ℕ)) → FollowsFirst lines (Places l.columns) (drop l.start l.text) → AreRowsUpto l.columns lines l.number (drop l.next l.text) l.rows.items l.logs;
}

abbrev pub decreases-loop-at : goal.decreases-loop-at
decreases-loop-at l = length l.text - l.next
