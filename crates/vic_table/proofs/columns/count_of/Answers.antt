use Rattle.vic_table.proofs.Words.{sym, ◌∙◌, ap, ◌+◌, arith}
use Rattle.vic_table.proofs.Elements.{count_by-yes, count_by-no}
use Rattle.vic_table.specs.Contents.{is_word}
use Rattle.vic_table.proofs.columns.count_of.Goals as goal
use Rattle.vic_table.proofs.columns.count_of.Goals.{then-is_word, else-is_word}

pub loop-index-preserved : goal.loop-index-preserved
loop-index-preserved c =
    let yes = count_by-yes (is_word c.args.name.now) c.args.cells.now c.loop-index.index c.get.result.now c.get.ensures in
    let no = count_by-no (is_word c.args.name.now) c.args.cells.now c.loop-index.index c.get.result.now c.get.ensures in
    let i = c.loop-index.invariant in
    elim c.if-is_word.branch [
      | then-is_word w ↦ record { counted = w.count-is ∙ (ap (λ n. n + 1) i.counted ∙ sym (yes (sym c.is_word.ensures ∙ w.if-is_word.true))); low = omega (arith, w.count-is, i.low) }
      | else-is_word w ↦ record { counted = w.count-is ∙ (i.counted ∙ sym (no (sym c.is_word.ensures ∙ w.if-is_word.false))); low = omega (arith, w.count-is, i.low) }
    ]
