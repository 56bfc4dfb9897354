use Rattle.vic_table.proofs.Words.{◌≡◌, true, take, list_all}
use Rattle.vic_table.specs.Contents.{is_blank}
use Rattle.vic_table.proofs.items.is_blank_line.Given as goal

abbrev pub invariant-loop-index : goal.invariant-loop-index
invariant-loop-index l = list_all is_blank (take l.index l.cells) ≡ true
