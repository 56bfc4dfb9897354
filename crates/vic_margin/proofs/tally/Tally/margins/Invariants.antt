use Rattle.vic_margin.proofs.Words.{◌&&◌, ◌≡◌, nat_lt, not}
use Rattle.vic_margin.specs.inner.Tallies.{IsTurned}
use Rattle.vic_walk.specs.Marked.{is_marked}
use Rattle.vic_margin.proofs.tally.Tally.margins.Given as goal

abbrev pub invariant-loop-part : goal.invariant-loop-part
invariant-loop-part l = record {
  turned : IsTurned (λ p. nat_lt p l.part && not (is_marked l.fn.self.quiet p)) l.fn.self l.tally;
  quiet : l.tally.quiet ≡ l.fn.self.quiet;
}
