use Rattle.vic_collection.proofs.Words.{◌∙◌, arith, sym, ne_eqb, get_or}
use Rattle.std.specs.Str.{byte}
use Rattle.vic_collection.proofs.Names.{before_ending-dot, before_ending-other}
use Rattle.vic_collection.proofs.found.stem_of.Goals as goal
use Rattle.vic_collection.proofs.found.stem_of.Goals.{then-byte-eq46, else-byte-eq46}

pub loop-index-preserved : goal.loop-index-preserved
loop-index-preserved c =
    let i = c.loop-index.index in
    let name = c.args.name.now in
    let lt = c.loop-index-test.true in
    let kept = c.loop-index.invariant in
    elim c.if-byte-eq46.branch [
      | then-byte-eq46 w ↦ record { low = omega (arith, w.end-is); front = rw w.end-is (before_ending-dot name i lt w.if-byte-eq46.true) }
      | else-byte-eq46 w ↦ record { low = omega (arith, w.end-is, kept.low); front = rw w.end-is (kept.front ∙ sym (before_ending-other name i lt (ne_eqb (byte ".") (get_or name i 0) (λ e. w.if-byte-eq46.false (sym e))))) }
    ]
