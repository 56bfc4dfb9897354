use Rattle.vic_margin.proofs.Words.{Bool, ℕ}
use Rattle.vic_margin.proofs.Lowest.{IsLeastTo}
use Rattle.vic_margin.specs.inner.Least.{IsLeastOf}
use Rattle.vic_margin.proofs.least.least_between.Given as goal

abbrev pub invariant-loop-part : goal.invariant-loop-part
invariant-loop-part l = (wanted : ℕ → Bool) → IsLeastOf l.margins.parts l.margins.each.items wanted l.fn.least → IsLeastTo l.margins.parts l.margins.each.items wanted l.from l.end l.part l.found
