use Rattle.vic_log.proofs.Words.{◌≡◌, ◌++◌, Some, drop, true, listed_text}
use Rattle.vic_log.proofs.Told.{Waits}
use Rattle.vic_log.proofs.write.write_listed.Given as goal

abbrev pub invariant-loop-uid : goal.invariant-loop-uid
invariant-loop-uid g l = record {
  untouched : g.W.Sink.has_failed l.fn.sink ≡ true → l.sink ≡ l.fn.sink;
  told : Waits (g.W.Sink.taken l.fn.sink) (g.W.Sink.taken l.sink) l.piece.items (listed_text (drop l.uid-index l.uids)) (l.opening ++ listed_text l.uids);
  written : Waits (Some (g.W.Sink.written l.fn.sink)) (Some (g.W.Sink.written l.sink)) l.piece.items (listed_text (drop l.uid-index l.uids)) (l.opening ++ listed_text l.uids);
}
