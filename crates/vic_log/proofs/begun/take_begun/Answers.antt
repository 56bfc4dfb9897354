use Rattle.vic_log.proofs.Words.{rules, ◌+◌, ◌++◌, [], append-nil, length, subst, sym, refl, add-one, arith, inl, length-append, common_steps, IsLong}
use Rattle.vic_log.proofs.Judged.{HasCut-more, early-long, early-many}
use Rattle.vic_log.proofs.Place.{over, on_ok}
use Rattle.vic_log.proofs.begun.take_begun.Goals as goal
use Rattle.vic_log.proofs.begun.take_begun.Goals.{then-not-fits-via-then-not-fits, then-not-fits-via-else-not-fits+then-is_too_long}

pub returns-then-begun-eq-MAX_LINES-clause-err : goal.returns-then-begun-eq-MAX_LINES-clause-err
returns-then-begun-eq-MAX_LINES-clause-err c = λ text j. early-many j c.args.bytes.now c.if-begun-eq-MAX_LINES.true (search rules)

pub returns-then-not-fits-clause-err : goal.returns-then-not-fits-clause-err
returns-then-not-fits-clause-err c = λ text j.
    let line = c.args.begun.now.line.items in
    let bytes = c.args.bytes.now in
    let size = length-append line bytes in
    let limit = j.limit in
    let long : IsLong (line ++ bytes) = elim c.then-not-fits.branch [
      | then-not-fits-via-then-not-fits w ↦ let full = over c.try_extend_from_slice.result (length line + length bytes) c.try_extend_from_slice.ensures.variant (sym w.if-not-fits.ensures.value) in inl (omega arith)
      | then-not-fits-via-else-not-fits+then-is_too_long w ↦
          let items = on_ok c.try_extend_from_slice.result _ (sym w.if-not-fits.ensures.value) c.try_extend_from_slice.ensures.ok in
          subst IsLong (items) (w.if-is_too_long.ensures.long refl)
    ] in
    rw (← append-nil (text ++ bytes), add-one) (early-long (HasCut-more j.begun bytes c.requires) (omega arith) long [])

pub returns-clause-ok : goal.returns-clause-ok
returns-clause-ok c = grind (arith, common_steps, rules, HasCut-more)
