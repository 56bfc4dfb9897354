-- Items whose places are in one piece, where one more is put behind it.
use Rattle.vic_table.proofs.Words.{◌≡◌, ℕ, Option, Some, None, List, [], ◌∷◌, length, All, AllByRecursion, recursion_from_All, refl, ap, ap₂}
use Rattle.std.specs.Option.{ForSome, option_map}
use Rattle.vic_table.specs.declared.cells.Span.{Span}
use Rattle.vic_table.specs.declared.item_list.KeptItem.{KeptItem}
use Rattle.vic_table.specs.inner.Kept.{HasPlace, kept_items}
use Rattle.vic_table.specs.inner.Spans.{IsWithin, span_bytes}

module _ (old new : List ℕ) (others : (s : Span) → IsWithin (length old) s → IsWithin (length new) s × (span_bytes new s ≡ span_bytes old s)) where
  same_place : (o : Option Span) → ForSome o (IsWithin (length old)) → option_map (span_bytes new) o ≡ option_map (span_bytes old) o
  same_place None h = refl
  same_place (Some s) h = ap Some (others s (h s refl)).1

  same_items : (items : List KeptItem) → AllByRecursion (HasPlace (length old)) items → kept_items new items ≡ kept_items old items
  same_items [] h = refl
  same_items (item ∷ items) h =
      ap₂ (λ x xs. x ∷ xs)
      (ap (λ (place : Option (List ℕ)). record { line = item.line; start = item.start; end = item.end; uid = item.uid; place = place; away = item.away }) (same_place item.place h.0))
      (same_items items h.1)

  pub kept_items-more : (items : List KeptItem) → All (HasPlace (length old)) items → kept_items new items ≡ kept_items old items
  kept_items-more items h = same_items items (recursion_from_All (HasPlace (length old)) items h)
