use Rattle.vic_table.proofs.Words.{sym, ◌∙◌, and_from}
use Rattle.vic_table.proofs.Elements.{list_all_next, list_all_fails}
use Rattle.vic_table.specs.Contents.{is_blank}
use Rattle.vic_table.proofs.items.is_blank_line.Goals as goal

pub returns-then-not-is_blank : goal.returns-then-not-is_blank
returns-then-not-is_blank c = sym (list_all_fails is_blank c.args.cells.now c.loop-index.index c.get.result.now c.get.ensures (sym c.is_blank.ensures ∙ c.if-not-is_blank.true))

pub loop-index-preserved : goal.loop-index-preserved
loop-index-preserved c = list_all_next is_blank c.args.cells.now c.loop-index.index c.get.result.now c.get.ensures ∙ and_from _ _ c.loop-index.invariant (sym c.is_blank.ensures ∙ c.if-not-is_blank.false)
