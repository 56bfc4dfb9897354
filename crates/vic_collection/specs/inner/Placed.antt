-- The places of logs by their positions, and the state of an item by what is kept.
use Rattle.std.specs.Prelude.{ℕ, Bool, false, ◌&&◌, not, if◌then◌else◌, is_some, Option, Some, None, List, slice_get}
use Rattle.std.specs.List.{list_any}
use Rattle.vic_collection.specs.declared.state.State.{State}
use Rattle.vic_collection.specs.declared.state.State.TheVariants.{Returned, InPlace, Misplaced, There, Doubtful, Away, NotCounted, Absent}
use Rattle.vic_collection.specs.Collections.{CollectionValue, is_certain_somewhere, is_possible_somewhere}
use Rattle.vic_collection.specs.Joins.{is_text}
use Rattle.vic_collection.specs.States.{is_certain_at}

abbrev pub is_text_in : List ℕ → Option (Option (List ℕ)) → Bool
is_text_in text None = false
is_text_in text (Some place) = is_text text place

-- the log at this position is of the place
abbrev pub is_placed : List (Option (List ℕ)) → List ℕ → ℕ → Bool
is_placed places place k = is_text_in place (slice_get places k)

-- no log is of the place, where places are asked for
abbrev pub is_without_log_among : Bool → List (Option (List ℕ)) → Option (List ℕ) → Bool
is_without_log_among asks places None = false
is_without_log_among asks places (Some place) = asks && not (list_any (is_text place) places)

-- the state of an item of this place with this UID
abbrev pub state_by_place : CollectionValue → Option (List ℕ) → Bool → Bool → ℕ → State
state_by_place c place away without_log u =
    if away && is_certain_somewhere c u then Returned
    else if is_certain_at c place u then InPlace
    else if is_some place && is_certain_somewhere c u then Misplaced
    else if is_certain_somewhere c u then There
    else if is_possible_somewhere c u then Doubtful
    else if away then Away
    else if without_log then NotCounted
    else Absent
