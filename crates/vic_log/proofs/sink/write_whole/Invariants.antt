use Rattle.vic_log.proofs.Words.{length, ◌-◌, ◌≡◌, ◌≤◌, ◌++◌, false, take, Appends}
use Rattle.vic_log.proofs.sink.write_whole.Given as goal

abbrev pub invariant-loop-at : goal.invariant-loop-at
invariant-loop-at g l =
    (l.at ≤ length l.bytes)
    × (g.W.Sink.has_failed l.sink ≡ false)
    × Appends (g.W.Sink.taken l.initial.sink) (g.W.Sink.taken l.sink) (take l.at l.bytes)
    × (g.W.Sink.written l.sink ≡ g.W.Sink.written l.initial.sink ++ take l.at l.bytes)

abbrev pub decreases-loop-at : goal.decreases-loop-at
decreases-loop-at g l = length l.bytes - l.at
