-- A list of UIDs as a catalogue: an item for each, which belongs nowhere and isn't away (profile).
use Rattle.std.specs.Prelude.{◌≡◌, ℕ, false, Option, Some, None, List, map}
use Rattle.std.specs.List.{All}
use Rattle.vic_table.specs.Values.{CatalogueValue, ItemValue}

-- the item belongs nowhere and should be in a field
abbrev pub IsListed : ItemValue → Type 0
IsListed item = (item.place ≡ None) × (item.away ≡ false)

-- it has no column of places, and an item for each of these UIDs, in their order
pub record IsListCatalogue (c : CatalogueValue) (uids : List ℕ) : Type 0 where
  pub no_places : c.columns.place ≡ None
  pub uids_are : map (λ item. item.uid) c.items ≡ map Some uids
  pub listed : All IsListed c.items
