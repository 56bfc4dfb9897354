use Rattle.vic_table.proofs.Words.{◌≡◌, length}
use Rattle.vic_table.specs.Contents.{trimmed_start}
use Rattle.vic_table.proofs.contents.trimmed_start.Given as goal

abbrev pub invariant-loop-first : goal.invariant-loop-first
invariant-loop-first l = trimmed_start l.cell ≡ trimmed_start l.rest

abbrev pub decreases-loop-first : goal.decreases-loop-first
decreases-loop-first l = length l.rest
