use Rattle.std.proofs.Common.{◌∙◌, Some, ap, refl, sym}
use Rattle.vic_log.specs.Order.{entries}
use Rattle.vic_log.specs.declared.entry.Entry.{Entry}
use Rattle.vic_walk.proofs.LineLaws.{entry_at, first_lines}
use Rattle.vic_object.proofs.Asked.{noted_more}
use Rattle.vic_object.proofs.asking.collided_masks.Goals as goal

pub loop-line-init : goal.loop-line-init
loop-line-init c = record {
  round = c.first-cursor.ensures (entries c.lines-lines.result.now);
  noted = λ m. rw c.new-masks.ensures.empty refl;
}

pub loop-line-preserved : goal.loop-line-preserved
loop-line-preserved c =
    let lines = c.lines-lines.result.now in
    let es = entries lines in
    let log = first_lines _ _ c.lines-lines.ensures.log in
    let i = c.loop-line.line-index in
    let l = c.line-item.result in
    let before = c.loop-line.invariant in
    let here = entry_at lines i l c.loop-line-test.true c.line-item.is ∙ ap (λ (e : Entry). Some e) (sym c.item-entry.ensures) in
    record {
      round = c.advance.ensures es i log.order here before.round;
      noted = λ m. noted_more es i c.item-entry.result c.mask-mask.result m _ _ here (c.mask-mask.ensures es i log.valid before.round) (c.in_ok-note_collision.ensures m) (before.noted m);
    }
