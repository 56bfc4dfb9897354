use Rattle.vic_collection.proofs.Words.{◌∙◌, arith, sym}
use Rattle.vic_collection.proofs.Names.{base_of-slash, base_of-other}
use Rattle.vic_collection.proofs.found.base_of.Goals as goal
use Rattle.vic_collection.proofs.found.base_of.Goals.{then-is_slash, else-is_slash}

pub loop-index-preserved : goal.loop-index-preserved
loop-index-preserved c =
    let i = c.loop-index.index in
    let name = c.args.name.now in
    let lt = c.loop-index-test.true in
    let kept = c.loop-index.invariant in
    elim c.if-is_slash.branch [
      | then-is_slash w ↦ record { low = omega (arith, w.start-is); base = rw w.start-is (base_of-slash name i lt (sym c.is_slash.ensures ∙ w.if-is_slash.true)) }
      | else-is_slash w ↦ record { low = omega (arith, w.start-is, kept.low); base = rw w.start-is (base_of-other name i c.loop-index.start lt kept.low (sym c.is_slash.ensures ∙ w.if-is_slash.false) kept.base) }
    ]
