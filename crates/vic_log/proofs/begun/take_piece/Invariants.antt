use Rattle.vic_log.proofs.Words.{◌≡◌, ◌≤◌, ◌+◌, ◌++◌, ℕ, List, length, HasJudged, spare}
use Rattle.vic_log.proofs.begun.take_piece.Given as goal

abbrev pub invariant-loop-line : goal.invariant-loop-line
invariant-loop-line l = record {
  judged : (text : List ℕ) → HasJudged text l.fn.begun.read.log l.fn.begun.read.number l.fn.begun.line.items
      → (start : List ℕ) × HasJudged start l.begun.read.log l.begun.read.number l.begun.line.items × (text ++ l.bytes ≡ start ++ l.rest);
  less : spare l.begun.read.number l.begun.line.items + length l.bytes ≤ spare l.fn.begun.read.number l.fn.begun.line.items + length l.rest;
}

abbrev pub decreases-loop-line : goal.decreases-loop-line
decreases-loop-line l = length l.rest
