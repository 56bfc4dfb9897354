use Rattle.vic_table.proofs.Words.{ℕ, ◌<◌, ◌≤◌, ◌-◌, List, All, length, drop}
use Rattle.vic_table.specs.declared.columns.Columns.TheVariants.{Catalogue}
use Rattle.vic_table.specs.inner.Kept.{item_values, IsWithinText}
use Rattle.vic_table.specs.inner.Reading.{FollowsFirst}
use Rattle.vic_table.proofs.Reading.{AreItemsUpto}
use Rattle.vic_table.proofs.items.read_items.Given as goal

abbrev pub invariant-loop-at : goal.invariant-loop-at
invariant-loop-at l = record {
  some : 0 < l.number;
  limit : l.number ≤ 1000000;
  bound : l.next ≤ length l.text;
  within : All (IsWithinText (length l.text)) l.items;
  read : (lines : List (List ℕ)) → FollowsFirst lines (Catalogue l.columns) (drop l.start l.text) → AreItemsUpto l.columns lines l.number (drop l.next l.text) (item_values l.text l.items) l.uids;
}

abbrev pub decreases-loop-at : goal.decreases-loop-at
decreases-loop-at l = length l.text - l.next
