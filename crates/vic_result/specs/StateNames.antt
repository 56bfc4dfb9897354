-- What states are called (profile).
use Rattle.std.specs.Prelude.{ℕ, List, [], ◌∷◌, codes}
use Rattle.vic_collection.specs.declared.state.State.{State}
use Rattle.vic_collection.specs.declared.state.State.TheVariants.{NoTag, Returned, InPlace, Misplaced, There, Doubtful, Away, NotCounted, Absent}

abbrev pub state_name : State → List ℕ
state_name NoTag = codes "no tag"
state_name Returned = codes "returned"
state_name InPlace = codes "in place"
state_name Misplaced = codes "misplaced"
state_name There = codes "there"
state_name Doubtful = codes "not provable"
state_name Away = codes "away"
state_name NotCounted = codes "not counted"
state_name Absent = codes "missing"

-- all states, in their order
abbrev pub all_states : List State
all_states =
    NoTag ∷ Returned ∷ InPlace ∷ Misplaced ∷ There ∷ Doubtful ∷ Away ∷ NotCounted ∷ Absent ∷ []
