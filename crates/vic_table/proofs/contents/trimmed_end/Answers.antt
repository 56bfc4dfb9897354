use Rattle.vic_table.proofs.Words.{arith, common_steps}
use Rattle.vic_table.proofs.Trimming.{trimmed_end-space, trimmed_end-kept}
use Rattle.vic_table.proofs.contents.trimmed_end.Goals as goal

pub returns-then-not-is_space : goal.returns-then-not-is_space
returns-then-not-is_space c = grind (arith, common_steps, trimmed_end-kept)

pub loop-last-preserved : goal.loop-last-preserved
loop-last-preserved c = grind (arith, common_steps, trimmed_end-space)
