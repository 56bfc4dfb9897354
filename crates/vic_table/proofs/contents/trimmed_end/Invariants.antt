use Rattle.vic_table.proofs.Words.{◌≡◌, length}
use Rattle.vic_table.specs.Contents.{trimmed_end}
use Rattle.vic_table.proofs.contents.trimmed_end.Given as goal

abbrev pub invariant-loop-last : goal.invariant-loop-last
invariant-loop-last l = trimmed_end l.cell ≡ trimmed_end l.rest

abbrev pub decreases-loop-last : goal.decreases-loop-last
decreases-loop-last l = length l.rest
