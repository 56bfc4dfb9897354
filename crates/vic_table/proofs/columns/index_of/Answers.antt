use Rattle.vic_table.proofs.Words.{[], sym, ◌∙◌, arith}
use Rattle.vic_table.proofs.Elements.{position-here, position-none, fails_upto}
use Rattle.vic_table.specs.Contents.{is_word}
use Rattle.vic_table.proofs.columns.index_of.Goals as goal

pub returns-then-is_word : goal.returns-then-is_word
returns-then-is_word c = sym (position-here (is_word c.args.name.now) c.args.cells.now c.loop-index.index c.get.result.now c.get.ensures [] (sym c.is_word.ensures ∙ c.if-is_word.true) c.loop-index.invariant)

pub loop-index-preserved : goal.loop-index-preserved
loop-index-preserved c = fails_upto (is_word c.args.name.now) c.args.cells.now c.loop-index.index c.get.result.now c.get.ensures [] (sym c.is_word.ensures ∙ c.if-is_word.false) c.loop-index.invariant

pub returns : goal.returns
returns c = sym (position-none (is_word c.args.name.now) c.args.cells.now [] (λ k low. c.loop-index.invariant k (omega (arith, c.len-index-end.ensures))))
