use Rattle.vic_table.proofs.Words.{drop}
use Rattle.vic_table.proofs.Splitting.{IsSplit}
use Rattle.vic_table.proofs.cells.fill.Given as goal

abbrev pub invariant-loop-byte : goal.invariant-loop-byte
invariant-loop-byte l = IsSplit l.separator l.line l.bytes.items l.spans.items l.start l.spot (drop l.byte-index l.line)
