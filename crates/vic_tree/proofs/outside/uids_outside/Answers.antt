use Rattle.vic_tree.proofs.Words.{◌≡◌, ◌∙◌, ◌<◌, ◌&&◌, ◌||◌, ◌==◌, ℕ, not, length, get_or, or-false, sym, ap, uid_of, has, mirror_of_uid, get_or-map, is_uid}
use Rattle.vic_tree.proofs.GatheringLaws.{has_pushed}
use Rattle.vic_tree.proofs.SetLaws.{outside_more}
use Rattle.vic_tree.proofs.outside.uids_outside.Goals as goal
use Rattle.vic_tree.proofs.outside.uids_outside.Goals.{then-not-index+in_ok-push, else-not-index}

pub loop-i-preserved : goal.loop-i-preserved
loop-i-preserved g c =
    let set = g.S.OpenSet.is_open c.args.set.now in
    let keys = c.as_slice-keys.result.now in
    let i = c.loop-i.i in
    let x = uid_of (get_or keys i 0) in
    let old = c.loop-i.outside.items in
    let lt : i < length keys = c.loop-i-test.true in
    let is_open : set x ≡ c.index.result.now = sym (c.index.ensures ∙ ap (λ bs. get_or bs i c.index.result.now) (rw (← c.as_slice-keys.ensures.value) at c.in_ok-is_open.ensures) ∙ get_or-map (λ k. set (uid_of k)) keys i 0 c.index.result.now lt) in
    let step : (u : ℕ) → has c.if-not-index.outside.items u ≡ (has old u || (not (set x) && (u == x))) = λ u. elim c.if-not-index.branch [
      | then-not-index+in_ok-push w ↦ rw (w.outside-is, w.in_ok-push.ensures.items, w.uid_at.ensures.value, is_open, w.if-not-index.true) (has_pushed u x old)
      | else-not-index w ↦ rw (w.outside-is, is_open, w.if-not-index.false) (sym (or-false (has old u)))
    ] in
    outside_more set keys i x old c.if-not-index.outside.items lt (is_uid (get_or keys i 0)) (mirror_of_uid (get_or keys i 0) (c.as_slice-keys.ensures.keys i 0 lt)) step c.loop-i.invariant
