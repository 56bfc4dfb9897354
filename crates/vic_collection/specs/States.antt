-- The state of an item: the first of nine that applies (profile).
use Rattle.std.specs.Prelude.{ℕ, Bool, true, false, ◌&&◌, not, if◌then◌else◌, is_some, Option, Some, None, List}
use Rattle.std.specs.List.{list_any}
use Rattle.vic_table.specs.Values.{ItemValue}
use Rattle.vic_collection.specs.declared.state.State.{State}
use Rattle.vic_collection.specs.declared.state.State.TheVariants.{NoTag, Returned, InPlace, Misplaced, There, Doubtful, Away, NotCounted, Absent}
use Rattle.vic_collection.specs.Collections.{CollectionValue, is_certain_in, is_certain_somewhere, is_number, is_possible_somewhere}
use Rattle.vic_collection.specs.Joins.{is_of_place, is_without_log}

-- the UID is certain in a log of this place
abbrev pub is_certain_at : CollectionValue → Option (List ℕ) → ℕ → Bool
is_certain_at c None u = false
is_certain_at c (Some place) u =
    list_any (λ s. is_of_place c place s && is_certain_in s u) c.surveys

abbrev pub is_place_without_log : CollectionValue → Option (List ℕ) → Bool
is_place_without_log c None = false
is_place_without_log c (Some place) = is_without_log c place

-- the state of an item with this UID
abbrev pub state_with : CollectionValue → ItemValue → ℕ → State
state_with c item u =
    if item.away && is_certain_somewhere c u then Returned
    else if is_certain_at c item.place u then InPlace
    else if is_some item.place && is_certain_somewhere c u then Misplaced
    else if is_certain_somewhere c u then There
    else if is_possible_somewhere c u then Doubtful
    else if item.away then Away
    else if is_place_without_log c item.place then NotCounted
    else Absent

abbrev pub state_by : CollectionValue → ItemValue → Option ℕ → State
state_by c item None = NoTag
state_by c item (Some u) = state_with c item u

-- the state of an item
abbrev pub state_of : CollectionValue → ItemValue → State
state_of c item = state_by c item item.uid

-- an item with this UID should be in a field, and its place, if it has one, has a log
abbrev pub is_looked_for : CollectionValue → ℕ → Bool
is_looked_for c u =
    list_any (λ item. is_number u item.uid
    && (not item.away && not (is_place_without_log c item.place))) c.catalogue.items

-- in place or there
abbrev pub is_there : State → Bool
is_there NoTag = false
is_there Returned = false
is_there InPlace = true
is_there Misplaced = false
is_there There = true
is_there Doubtful = false
is_there Away = false
is_there NotCounted = false
is_there Absent = false
