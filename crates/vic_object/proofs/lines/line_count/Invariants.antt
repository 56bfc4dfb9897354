use Rattle.std.proofs.Common.{◌≡◌, ◌+◌, ◌≤◌, length, drop}
use Rattle.vic_log.specs.Lines.{cut}
use Rattle.vic_object.proofs.Counted.{lines_from}
use Rattle.vic_object.proofs.lines.line_count.Given as goal

abbrev pub invariant-loop-byte : goal.invariant-loop-byte
invariant-loop-byte l = record {
  few : l.count ≤ l.byte-index;
  left : l.count + lines_from l.is_begun (drop l.byte-index l.text) ≡ length (cut l.text);
}
