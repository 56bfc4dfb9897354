use Rattle.vic_margin.proofs.Words.{◌≡◌, ℕ, has}
use Rattle.std.proofs.Common.{take}
use Rattle.vic_tree.specs.Ranges.{in_ranges}
use Rattle.vic_margin.proofs.cautious.ranges_of.Given as goal

abbrev pub invariant-loop-key : goal.invariant-loop-key
invariant-loop-key l = (k : ℕ) → in_ranges l.ranges.items k ≡ has (take l.key-index l.key-items) k
