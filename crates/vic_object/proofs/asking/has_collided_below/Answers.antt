use Rattle.std.proofs.Common.{◌∙◌, ◌||◌, Bool, ap, sym}
use Rattle.vic_frame.specs.Masks.{slot_of_sixteen}
use Rattle.vic_object.specs.Asking.{has_collided_below}
use Rattle.vic_object.proofs.Asked.{none_below, one_below}
use Rattle.vic_object.proofs.asking.has_collided_below.Goals.{then-has_collided_in_slot, else-has_collided_in_slot}
use Rattle.vic_object.proofs.asking.has_collided_below.Goals as goal

pub loop-k-init : goal.loop-k-init
loop-k-init c es a = sym (none_below es c.args.mask.now)

pub loop-k-preserved : goal.loop-k-preserved
loop-k-preserved c es a =
    let m = c.args.mask.now in
    let k = c.loop-k.k in
    let here = sym (a.masks (slot_of_sixteen m k)) ∙ sym c.has_collided_in_slot.ensures in
    let next = one_below es m k in
    elim c.if-has_collided_in_slot.branch [
      | then-has_collided_in_slot w ↦ w.found-is ∙ w.if-has_collided_in_slot.true ∙ sym (next ∙ ap (λ (b : Bool). b || has_collided_below es m k) (here ∙ w.if-has_collided_in_slot.true))
      | else-has_collided_in_slot w ↦ w.found-is ∙ c.loop-k.invariant es a ∙ sym (next ∙ ap (λ (b : Bool). b || has_collided_below es m k) (here ∙ w.if-has_collided_in_slot.false))
    ]
