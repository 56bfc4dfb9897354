use Rattle.vic_report.proofs.Words.{◌≡◌, ◌+◌, true, Some, arith, length, refl, slice_get, slice_get_read, subst, sym, has, ShowsCertain}
use Rattle.vic_report.proofs.NotedLines.{SomeForcesBefore, as_noted, both_noted, forces_split, forces_within, noted_as}
use Rattle.vic_report.proofs.Telling.{unread_shows, unread_there}
use Rattle.vic_report.specs.inner.NotedLines.{HasNoted}
use Rattle.vic_verdict.specs.Needs.{ForcesThere, SomeForces}
use Rattle.vic_report.proofs.certain_lines.note_unread.Goals.{then-len-slot, else-len-slot}
use Rattle.vic_report.proofs.certain_lines.note_unread.Goals as goal

pub bounds-lines-slot : goal.bounds-lines-slot
bounds-lines-slot c =
    (unread_there c.args.lines.now c.args.unread.now c.loop-slot.slot-index c.slot-item.result c.requires.unread c.loop-slot-test.true c.slot-item.is).1

pub offset_bounds-lines-slot : goal.offset_bounds-lines-slot
offset_bounds-lines-slot c = omega (arith, bounds-lines-slot c, c.well_formed)

pub loop-slot-preserved : goal.loop-slot-preserved
loop-slot-preserved c up =
    let lines = c.args.lines.now in
    let us = c.args.uids.now in
    let fs = c.args.unread.now in
    let i = c.loop-slot.slot-index in
    let f = c.slot-item.result in
    let unread = unread_there lines fs i f c.requires.unread c.loop-slot-test.true c.slot-item.is in
    both_noted lines us c.args.noted.now c.loop-slot.noted c.if-len-slot.noted (SomeForcesBefore fs i) (ForcesThere f) (SomeForcesBefore fs (i + 1)) (λ u w. forces_split fs i u f c.loop-slot-test.true c.slot-item.is w)
    (c.loop-slot.invariant up)
    (elim c.if-len-slot.branch [
      | then-len-slot w ↦
          let is = w.deref.ensures.0 in
          let exact : length f.uids.items ≡ f.need = omega (arith, c.len.ensures.value, w.if-len-slot.true) in
          let line = w.index-lines-slot.result in
          let there : slice_get lines f.at ≡ Some line = slice_get_read lines (length lines) f.at line refl unread.1 w.index-lines-slot.is in
          subst (λ new. HasNoted lines us c.loop-slot.noted new (ForcesThere f)) (sym w.noted-is)
          (noted_as lines us c.loop-slot.noted w.note_all.new.noted (λ u. has w.deref.result.now u ≡ true) (ForcesThere f) (λ u x. subst (λ vs. has vs u ≡ true) (sym is) x.1)
          (w.note_all.ensures lines up (λ u h.
          subst (λ n. ShowsCertain lines n u) (sym w.number.ensures) (unread_shows lines f line u c.requires.possible unread.0 there (exact, subst (λ vs. has vs u ≡ true) is h)))))
      | else-len-slot w ↦
          subst (λ new. HasNoted lines us c.loop-slot.noted new (ForcesThere f)) (sym w.noted-is)
          (as_noted lines us c.loop-slot.noted (ForcesThere f) (λ j lt x. let exact = x.0 in absurd (omega (arith, c.len.ensures.value, exact, w.if-len-slot.false))))
    ])

pub returns : goal.returns
returns c up =
    let fs = c.args.unread.now in
    let i = c.loop-slot.slot-index in
    let end = c.loop-slot-test.false in
    noted_as c.args.lines.now c.args.uids.now c.args.noted.now c.loop-slot.noted (SomeForcesBefore fs i) (SomeForces fs) (λ u w. forces_within fs i u (omega (arith, end)) w) (c.loop-slot.invariant up)
