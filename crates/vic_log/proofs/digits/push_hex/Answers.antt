use Rattle.vic_log.proofs.Words.{sym, ◌∙◌, arith, common_steps}
use Rattle.vic_log.proofs.HexDigits.{with_digits, next_byte, no_byte}
use Rattle.vic_log.proofs.digits.push_hex.Goals as goal

pub loop-byte-preserved : goal.loop-byte-preserved
loop-byte-preserved g c = grind (arith, common_steps, with_digits, next_byte)

pub returns-clause-items : goal.returns-clause-items
returns-clause-items g c = sym (no_byte c.loop-byte.text.items c.args.bytes.now c.loop-byte.byte-index (omega arith)) ∙ c.loop-byte.invariant.told
