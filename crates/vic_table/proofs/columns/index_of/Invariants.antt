use Rattle.vic_table.proofs.Words.{◌≡◌, ◌<◌, ℕ, [], false, get_or}
use Rattle.vic_table.specs.Contents.{is_word}
use Rattle.vic_table.proofs.columns.index_of.Given as goal

abbrev pub invariant-loop-index : goal.invariant-loop-index
invariant-loop-index l = (k : ℕ) → k < l.index → is_word l.name (get_or l.cells k []) ≡ false
