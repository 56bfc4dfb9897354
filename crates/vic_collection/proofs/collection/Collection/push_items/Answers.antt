use Rattle.vic_collection.proofs.Words.{◌≡◌, ◌∙◌, ◌||◌, arith, ap, sym, slice_get, Some, has, nat_eq, list_any, take, or-false, list_any-append, ◌∷◌, [], Bool, true, false, refl}
use Rattle.vic_collection.specs.Collections.{is_number}
use Rattle.vic_collection.proofs.Elements.{item_at, list_any_next, some_at}
use Rattle.vic_collection.proofs.collection.Collection.push_items.Goals as goal
use Rattle.vic_collection.proofs.collection.Collection.push_items.Goals.{in-Some+in_ok-push, in_default}

pub loop-index-preserved : goal.loop-index-preserved
loop-index-preserved c = λ u.
    let items = c.args.self.now.catalogue.items in
    let i = c.loop-index.index in
    let same = ap (λ k. k.items) c.catalogue-catalogue.ensures in
    let found = item_at c.catalogue-catalogue.result.now.items i (omega (arith, c.loop-index-test.true, c.len-index-end.ensures)) in
    let item = found.0 in
    let at : slice_get items i ≡ Some item = ap (λ l. slice_get l i) (sym same) ∙ found.1 in
    let uid = some_at (slice_get c.catalogue-catalogue.result.now.items i) (λ t. c.uid.result ≡ t.uid) item found.1 c.uid.ensures in
    let more = list_any_next (λ t. is_number u t.uid) items i item at in
    let before = has c.args.uids.now.items u in
    let among = list_any (λ t. is_number u t.uid) (take i items) in
    elim c.match-uid.branch [
      | in-Some+in_ok-push w ↦
          let is : is_number u item.uid ≡ nat_eq u w.in-Some.uid = ap (is_number u) (sym uid ∙ w.in-Some.is) in
          ap (λ v. has v.items u) w.uids-is ∙ (ap (λ l. has l u) w.in_ok-push.ensures.items ∙ (list_any-append (nat_eq u) c.loop-index.uids.items (w.in-Some.uid ∷ []) ∙ (rw (c.loop-index.invariant u, more, is) (assoc before among (nat_eq u w.in-Some.uid)))))
      | in_default w ↦
          let is : is_number u item.uid ≡ false = ap (is_number u) (sym uid ∙ w.in_default.is) in
          ap (λ v. has v.items u) w.uids-is ∙ (c.loop-index.invariant u ∙ rw (more, is, or-false among) refl)
    ] where
      assoc : (a b d : Bool) → ((a || b) || (d || false)) ≡ (a || (b || d))
      assoc true b d = refl
      assoc false true d = refl
      assoc false false true = refl
      assoc false false false = refl
