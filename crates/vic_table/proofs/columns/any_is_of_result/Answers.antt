use Rattle.vic_table.proofs.Words.{sym, ◌∙◌, or_from}
use Rattle.vic_table.proofs.Elements.{list_any_next, list_any_holds}
use Rattle.vic_table.specs.Columns.{is_of_result}
use Rattle.vic_table.proofs.columns.any_is_of_result.Goals as goal

pub returns-then-is_of_result : goal.returns-then-is_of_result
returns-then-is_of_result c = sym (list_any_holds is_of_result c.args.cells.now c.loop-index.index c.get.result.now c.get.ensures (sym c.is_of_result.ensures ∙ c.if-is_of_result.true))

pub loop-index-preserved : goal.loop-index-preserved
loop-index-preserved c = list_any_next is_of_result c.args.cells.now c.loop-index.index c.get.result.now c.get.ensures ∙ or_from _ _ c.loop-index.invariant (sym c.is_of_result.ensures ∙ c.if-is_of_result.false)
