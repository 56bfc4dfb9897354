use Rattle.vic_collection.proofs.Words.{◌≡◌, ◌∙◌, ◌<◌, ℕ, ap, sym, arith, slice_get, slice_get-get_or, get_or, Some, None, length, List, refl}
use Rattle.std.specs.Option.{option_map}
use Rattle.std.proofs.lemmas.List.{length-map}
use Rattle.std.proofs.lemmas.Option.{slice_get-map}
use Rattle.vic_table.specs.Values.{CatalogueValue}
use Rattle.vic_collection.specs.declared.state.State.{State}
use Rattle.vic_collection.specs.declared.state.State.TheVariants.{NoTag}
use Rattle.vic_collection.specs.States.{state_of}
use Rattle.vic_collection.proofs.Elements.{item_at, some_at}
use Rattle.vic_collection.proofs.Listing.{none_more, one_more}
use Rattle.vic_collection.proofs.collection.Collection.all_in.Goals as goal
use Rattle.vic_collection.proofs.collection.Collection.all_in.Goals.{then-is_same+in-Some+in_ok-push, then-is_same+in_default, else-is_same}

pub loop-item-preserved : goal.loop-item-preserved
loop-item-preserved c =
    let all = c.args.self.now in
    let items = all.catalogue.items in
    let same = ap (λ (k : CatalogueValue). k.items) c.catalogue-catalogue.ensures in
    let states : List State = c.args.states.now in
    let state : State = c.args.state in
    let i : ℕ = c.loop-item.item in
    let old = c.loop-item.found.items in
    let within : i < length items = omega (arith, c.loop-item-test.true, c.len-item-end.ensures, ap length same) in
    let short : i < length states = omega (arith, within, ap length c.requires, length-map items (state_of all)) in
    let found = item_at items i within in
    let item = found.0 in
    let there = ap (λ l. slice_get l i) same ∙ found.1 in
    let stands : Some (get_or states i NoTag) ≡ Some (state_of all item) = sym (slice_get-get_or states i NoTag short) ∙ (ap (λ l. slice_get l i) c.requires ∙ (slice_get-map (state_of all) items i ∙ ap (option_map (state_of all)) found.1)) in
    elim c.if-is_same.branch [
      | then-is_same+in-Some+in_ok-push w ↦
          let uid = some_at (slice_get c.catalogue-catalogue.result.now.items i) (λ t. w.uid.result ≡ t.uid) item there w.uid.ensures in
          let is : state_of all item ≡ state = let one = w.if-is_same.ensures.same refl in cc (stands, one) in
          rw (w.found-is, w.in_ok-push.ensures.items) (one_more all state i old c.loop-item.invariant item w.in-Some.uid found.1 (sym uid ∙ w.in-Some.is) is)
      | then-is_same+in_default w ↦
          let uid = some_at (slice_get c.catalogue-catalogue.result.now.items i) (λ t. w.uid.result ≡ t.uid) item there w.uid.ensures in
          rw w.found-is (none_more all state i old c.loop-item.invariant (λ other u at named is.
          let one : item ≡ other = cc (at, found.1) in let none : item.uid ≡ None = sym uid ∙ w.in_default.is in cc (named, one, none)))
      | else-is_same w ↦
          rw w.found-is (none_more all state i old c.loop-item.invariant (λ other u at named is.
          let one : item ≡ other = cc (at, found.1) in let same_state : get_or states i NoTag ≡ state = cc (stands, one, is) in w.if-is_same.ensures.different refl same_state))
    ]
