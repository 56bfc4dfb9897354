use Rattle.std.proofs.Common.{arith}
use Rattle.vic_object.proofs.Counted.{cut_lines, no_line_left}
use Rattle.vic_object.proofs.lines.line_count.Goals as goal

pub loop-byte-init : goal.loop-byte-init
loop-byte-init c = record { few = omega arith; left = omega (arith, cut_lines c.args.text.now) }

pub returns : goal.returns
returns c = omega (arith, c.loop-byte.invariant.left, no_line_left c.args.text.now c.loop-byte.byte-index c.loop-byte.is_begun (omega arith))
