use Rattle.vic_survey.proofs.ValueWords.{◌≡◌, ◌≤◌, ◌<◌, ◌+◌, ℕ, arith, get_or, length, subst, sym, take_all, List, BitMask}
use Rattle.std.proofs.Common.{◌↔◌}
use Rattle.std.specs.List.{Contains}
use Rattle.vic_survey.proofs.Made.{keeps_none, keeps_one, keeps_order}
use Rattle.vic_survey.proofs.Merged.{not_before}
use Rattle.vic_survey.proofs.making.masks_without.Goals.{then-not-is_first+in_ok-push, else-not-is_first}
use Rattle.vic_survey.proofs.making.masks_without.Goals as goal

-- it isn't among others
abbrev Outside : List BitMask → BitMask → Type 0
Outside others m = ¬ (Contains others m)

pub loop-mask-preserved : goal.loop-mask-preserved
loop-mask-preserved c =
    let ms : List BitMask = c.args.masks.items in
    let others : List BitMask = c.args.others.now in
    let ahead : List BitMask = c.from_mask-ahead.result.now in
    let m : BitMask = c.mask-item.result in
    let n : ℕ = c.loop-mask.mask-index in
    let inv = c.loop-mask.invariant in
    let is : m ≡ get_or ms n m = rw c.deref-mask-items.ensures.value at c.mask-item.is in
    let more : n < length ms = rw c.deref-mask-items.ensures.value at c.loop-mask-test.true in
    let same : (j : ℕ) (d : BitMask) → n ≤ j → j < length ms → Contains ahead (get_or ms j d) ↔ Contains others (get_or ms j d) = λ j d le lt.
    let new = c.from_mask-ahead.ensures.same (get_or ms j d) (not_before ms n j d m c.requires.masks le lt is) in
    let old = inv.same j d le lt in
    (λ h. old.0 (new.0 h), λ h. new.1 (old.1 h)) in
    let here : Contains ahead m ↔ Contains others m = subst (λ x. Contains ahead x ↔ Contains others x) (sym is) (same n m (omega arith) more) in
    let next : (j : ℕ) (d : BitMask) → n + 1 ≤ j → j < length ms → Contains ahead (get_or ms j d) ↔ Contains others (get_or ms j d) = λ j d le lt. same j d (omega (arith, le)) lt in
    elim c.if-not-is_first.branch [
      | then-not-is_first+in_ok-push w ↦ rw (w.kept-is, w.in_ok-push.ensures.items) (record {
        valid = keeps_order (Outside others) c.loop-mask.kept.items ms n m c.requires.masks more is inv.valid inv.members;
        members = keeps_one (Outside others) c.loop-mask.kept.items ms n m more is (λ h. absurd (cc (c.is_first.ensures.1 (here.1 h), w.if-not-is_first.true))) inv.members;
        rising = c.from_mask-ahead.ensures.rising;
        same = next;
      })
      | else-not-is_first w ↦ rw w.kept-is (record {
        valid = inv.valid;
        members = keeps_none (Outside others) c.loop-mask.kept.items ms n m more is (λ none. none (here.0 (c.is_first.ensures.0 w.if-not-is_first.false))) inv.members;
        rising = c.from_mask-ahead.ensures.rising;
        same = next;
      })
    ]

pub returns : goal.returns
returns c = rw c.of-2.ensures (record {
  rising = c.loop-mask.invariant.valid.rising;
  members = λ m. rw (take_all c.loop-mask.mask-index c.args.masks.items (omega arith)) at (c.loop-mask.invariant.members m);
})
