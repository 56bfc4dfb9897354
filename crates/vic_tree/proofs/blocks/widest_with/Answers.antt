use Rattle.vic_tree.proofs.Words.{arith}
use Rattle.vic_tree.proofs.BlockLaws.{too_wide}
use Rattle.vic_tree.proofs.blocks.widest_with.Goals as goal

pub returns-then-len-clause-least : goal.returns-then-len-clause-least
returns-then-len-clause-least c =
    too_wide c.args.range.0 c.args.range.1 c.least_len-len.result c.in-Some.mask (omega (arith, c.len.ensures.value, c.if-len.true)) c.least_len-len.ensures.none
