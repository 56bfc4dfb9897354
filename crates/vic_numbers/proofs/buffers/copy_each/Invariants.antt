use Rattle.vic_numbers.proofs.Words.{◌≡◌, ◌++◌, take, drop, map}
use Rattle.vic_numbers.proofs.buffers.copy_each.Given as goal

abbrev pub invariant-loop-index : goal.invariant-loop-index
invariant-loop-index g l =
    (told : g.row.T.Denot → g.row.V.Denot) → ((x : g.row.T.Denot) (v : _) → g.F.Fn.post l.value_of (x, tt) v → v ≡ told x)
    → l.room ≡ map told (take l.index l.items) ++ drop l.index l.fn.room
