-- The items in a state.
use Rattle.std.specs.Prelude.{◌≡◌, ◌<◌, ℕ, true, Some, List, map, slice_get}
use Rattle.std.specs.List.{All}
use Rattle.vic_frame.specs.Uids.{has}
use Rattle.vic_table.specs.Values.{ItemValue}
use Rattle.vic_collection.specs.declared.found_items.FoundItem.{FoundItem}
use Rattle.vic_collection.specs.declared.state.State.{State}
use Rattle.vic_collection.specs.Collections.{CollectionValue}
use Rattle.vic_collection.specs.Findings.{IsFoundIn}
use Rattle.vic_collection.specs.States.{state_of}

-- these are in this state, and have the UIDs of those of the first n items that are
pub record AreAllIn (c : CollectionValue) (state : State) (n : ℕ) (found : List FoundItem)
    : Type 0 where
  pub each : All (IsFoundIn c state) found
  pub all : (k : ℕ) (item : ItemValue) (u : ℕ) → k < n
      → slice_get c.catalogue.items k ≡ Some item → item.uid ≡ Some u → state_of c item ≡ state
      → has (map (λ f. f.uid) found) u ≡ true
