use Rattle.vic_field.proofs.Words.{◌≡◌, Some, length, refl, sym, ◌∙◌, add-one, arith, slice_get, slice_get_read}
use Rattle.vic_field.proofs.Listing.{no_slots_next}
use Rattle.vic_field.proofs.session.first_slot.Goals as goal

pub loop-line-init : goal.loop-line-init
loop-line-init c = λ i l below at. absurd (omega arith)

pub returns-then-is_slot : goal.returns-then-is_slot
returns-then-is_slot c = record {
  position = c.loop-line.line-index;
  line = c.line-item.result;
  here = slice_get_read c.args.lines.now (length c.args.lines.now) c.loop-line.line-index c.line-item.result refl c.loop-line-test.true c.line-item.is;
  number = sym c.number.ensures;
  tells = rw (sym c.item.ensures) (sym c.is_slot.ensures ∙ c.if-is_slot.true);
  first = c.loop-line.invariant;
}

pub loop-line-preserved : goal.loop-line-preserved
loop-line-preserved c =
    let at : slice_get c.args.lines.now c.loop-line.line-index ≡ Some c.line-item.result = slice_get_read c.args.lines.now (length c.args.lines.now) c.loop-line.line-index c.line-item.result refl c.loop-line-test.true c.line-item.is in
    rw add-one (no_slots_next c.loop-line.line-index c.args.lines.now c.line-item.result c.loop-line.invariant at (rw (sym c.item.ensures) (sym c.is_slot.ensures ∙ c.if-is_slot.false)))
