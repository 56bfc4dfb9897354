use Rattle.std.proofs.Common.{◌≡◌, ◌++◌, ℕ, map, take}
use Rattle.vic_object.specs.Finding.{absent_of}
use Rattle.vic_object.proofs.finding.add_with_counts.Given as goal

abbrev pub invariant-loop-index : goal.invariant-loop-index
invariant-loop-index l = (margin : ℕ → ℕ) → l.counts ≡ map (λ s. margin s.uid) l.absent → l.found.items ≡ l.fn.found.items ++ map (absent_of margin) (take l.index l.absent)
