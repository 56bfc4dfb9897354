use Rattle.vic_verdict.proofs.Words.{◌∙◌, sym, has, or_false}
use Rattle.vic_verdict.proofs.Meeting.{certain_more, certain_met, exact_added, not_exact, forced_iff}
use Rattle.vic_verdict.proofs.facts.certain_uids.Goals as goal
use Rattle.vic_verdict.proofs.facts.certain_uids.Goals.{then-len-slot+in_ok-extend_from_slice, else-len-slot}

pub loop-slot-init : goal.loop-slot-init
loop-slot-init c u = rw (c.in_ok-certain.ensures.items ∙ c.deref.ensures.value) (sym (or_false (has c.args.met.now.heard.items u)))

pub loop-slot-preserved : goal.loop-slot-preserved
loop-slot-preserved c =
    let below = rw c.deref-slot-items.ensures.value at c.loop-slot-test.true in
    let is = rw c.deref-slot-items.ensures.value at c.slot-item.is in
    let f = c.slot-item.result in
    elim c.if-len-slot.branch [
      | then-len-slot+in_ok-extend_from_slice w ↦ certain_more c.args.met.now.heard.items c.loop-slot.certain.items _ c.args.met.now.unread.items _ f below is (λ u. rw (w.certain-is, w.in_ok-extend_from_slice.ensures.items, w.deref-then-len-slot.ensures.0) (exact_added c.loop-slot.certain.items f u (sym c.len.ensures.value ∙ w.if-len-slot.true))) c.loop-slot.invariant
      | else-len-slot w ↦ certain_more c.args.met.now.heard.items c.loop-slot.certain.items _ c.args.met.now.unread.items _ f below is (λ u. rw w.certain-is (not_exact c.loop-slot.certain.items f u (λ e. w.if-len-slot.false (c.len.ensures.value ∙ e)))) c.loop-slot.invariant
    ]

pub returns : goal.returns
returns c es m = record {
  rising = c.of.ensures.rising;
  members = λ u.
      let met = certain_met c.args.met.now c.loop-slot.certain.items c.loop-slot.slot-index (rw c.deref-slot-items.ensures.value at c.loop-slot-test.false) c.loop-slot.invariant u in
      let forced = forced_iff es c.args.met.now u m in
      rw (c.of.ensures.members u) ((λ h. forced.1 (met.0 h)), (λ f. met.1 (forced.0 f)));
}
