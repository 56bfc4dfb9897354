use Rattle.vic_table.proofs.Words.{ℕ, Option, List, [], ◌∷◌, ◌++◌, ap, ap₂, ◌∙◌, map-append}
use Rattle.vic_table.specs.declared.item_list.KeptItem.{KeptItem}
use Rattle.vic_table.specs.inner.Kept.{ItemAt, kept_item, kept_items}
use Rattle.vic_table.proofs.Keeping.{kept_items-more}
use Rattle.vic_table.proofs.item_list.ItemList.push.Goals as goal

pub returns : goal.returns
returns c =
    let item = c.args.item.now in
    let old = c.self.inside.places.items in
    let new = c.keep_place.new.places.items in
    let items = c.self.inside.items.items in
    let kept : KeptItem = record { line = item.line; start = item.start; end = item.end; uid = item.uid; place = c.in_ok-place.place; away = item.away } in
    ap (kept_items new) c.in_ok-push.ensures.items
    ∙ (map-append (kept_item new) items (kept ∷ [])
    ∙ ap₂ (λ xs (x : ItemAt). xs ++ x ∷ [])
    (kept_items-more old new c.in_ok-place.ensures.others items c.self.invariant ∙ c.self.view_is)
    (ap (λ (place : Option (List ℕ)). record { line = item.line; start = item.start; end = item.end; uid = item.uid; place = place; away = item.away }) c.in_ok-place.ensures.value))
