use Rattle.vic_table.proofs.Words.{◌≡◌, ◌-◌, false, take, drop, list_any}
use Rattle.vic_table.specs.Contents.{tells_uid}
use Rattle.vic_table.proofs.columns.any_tells_uid.Given as goal

abbrev pub invariant-loop-index : goal.invariant-loop-index
invariant-loop-index l = list_any tells_uid (take (l.index - l.from) (drop l.from l.cells)) ≡ false
