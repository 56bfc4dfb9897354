use Rattle.vic_table.proofs.Words.{◌≡◌, ◌≤◌, take}
use Rattle.std.specs.List.{count_by}
use Rattle.vic_table.specs.Contents.{is_word}
use Rattle.vic_table.proofs.columns.count_of.Given as goal

abbrev pub invariant-loop-index : goal.invariant-loop-index
invariant-loop-index l = record {
  counted : l.count ≡ count_by (is_word l.name) (take l.index l.cells);
  low : l.count ≤ l.index;
}
