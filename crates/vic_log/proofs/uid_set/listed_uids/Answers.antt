use Rattle.vic_log.proofs.Words.{◌≡◌, List, ℕ, Some, ◌++◌, ◌∷◌, [], append-nil, take, length, refl, sym, subst, add-one, slice_get, slice_get_read, entries, listed, IsUidSet, IsSetOf}
use Rattle.vic_log.proofs.Push.{lists_none}
use Rattle.vic_log.proofs.UidSets.{IsSetOf-push, listed_next}
use Rattle.vic_log.proofs.uid_set.listed_uids.Goals as goal
use Rattle.vic_log.proofs.uid_set.listed_uids.Goals.{in-Listed+in_ok-put, in_default}

pub loop-line-preserved : goal.loop-line-preserved
loop-line-preserved c =
    let lines = c.args.lines.now in
    let i = c.loop-line.line-index in
    let l = c.line-item.result in
    let before = c.loop-line.invariant in
    let us = listed (entries (take i lines)) in
    let at : slice_get lines i ≡ Some l = slice_get_read lines (length lines) i l refl c.loop-line-test.true c.line-item.is in
    let more : IsSetOf (us ++ listed (l.item ∷ [])) c.match-item.set = elim c.match-item.branch [
      | in-Listed+in_ok-put w ↦ rw (w.set-is, ← c.item.ensures, w.in-Listed.is) (IsSetOf-push us w.in-Listed.uid c.loop-line.set w.put.new.self before.uids w.in_ok-put.ensures.more)
      | in_default w ↦ rw (w.set-is, ← c.item.ensures, lists_none c.item.result w.in_default.not-Listed, append-nil us) before.uids
    ] in
    let set : IsUidSet c.match-item.set = elim c.match-item.branch [
      | in-Listed+in_ok-put w ↦ rw w.set-is w.put.ensures.set
      | in_default w ↦ rw w.set-is before.set
    ] in
    rw add-one record { set = set; uids = subst (λ (us : List ℕ). IsSetOf us c.match-item.set) (sym (listed_next lines i l at)) more }
