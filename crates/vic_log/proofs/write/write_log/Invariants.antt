use Rattle.vic_log.proofs.Words.{◌≡◌, Some, drop, true, lines_text, text_of}
use Rattle.vic_log.proofs.Told.{Waits}
use Rattle.vic_log.proofs.write.write_log.Given as goal

abbrev pub invariant-loop-line : goal.invariant-loop-line
invariant-loop-line g l = record {
  untouched : g.W.Sink.has_failed l.fn.sink ≡ true → l.sink ≡ l.fn.sink;
  told : Waits (g.W.Sink.taken l.fn.sink) (g.W.Sink.taken l.sink) l.piece.items (lines_text (drop l.line-index l.lines)) (text_of l.log);
  written : Waits (Some (g.W.Sink.written l.fn.sink)) (Some (g.W.Sink.written l.sink)) l.piece.items (lines_text (drop l.line-index l.lines)) (text_of l.log);
}
