use Rattle.vic_verdict.proofs.Words.{IsUid, rules, arith, nat_tests, length, refl, sym, ap, ◌∙◌, add-one, [], ◌∷◌, list_any-append, slice_get_read, listed, append-nil}
use Rattle.vic_verdict.proofs.Listing.{lists_none, listed_more}
use Rattle.vic_verdict.proofs.listed.listed_uids.Goals as goal
use Rattle.vic_verdict.proofs.listed.listed_uids.Goals.{in-Listed+in_ok-push, in_default}

pub loop-line-preserved : goal.loop-line-preserved
loop-line-preserved c =
    let lines = c.args.lines.now in
    let l = c.line-item.result in
    let old = c.loop-line.uids.items in
    let more = listed_more lines c.loop-line.line-index l (slice_get_read lines (length lines) c.loop-line.line-index l refl c.loop-line-test.true c.line-item.is) in
    elim c.match-item.branch [
      | in-Listed+in_ok-push w ↦
          let t = rw w.in-Listed.is at c.item.type_inv in
          let own : IsUid w.in-Listed.uid = search (rules, t) in
          let item = sym c.item.ensures ∙ w.in-Listed.is in
          record { items = rw (w.uids-is, w.in_ok-push.ensures.items, c.loop-line.invariant.items, add-one, more, item); uids = λ u h. grind (arith, nat_tests, list_any-append, own) }
      | in_default w ↦
          let none = ap (λ e. listed (e ∷ [])) (sym c.item.ensures) ∙ lists_none c.item.result w.in_default.not-Listed in
          record { items = rw (w.uids-is, c.loop-line.invariant.items, add-one, more, none, append-nil); uids = rw w.uids-is c.loop-line.invariant.uids }
    ]
