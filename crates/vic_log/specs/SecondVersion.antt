-- The rules of log version 2, which has no captured replies and no unknown slots.
use Rattle.std.specs.Prelude.{◌≡◌, ◌≢◌, ℕ, ◌<◌, Bool, true, false, Some, List, ⊤, slice_get}
use Rattle.vic_frame.specs.declared.request.Request.{Request}
use Rattle.vic_log.specs.declared.entry.Entry.{Entry}
use Rattle.vic_log.specs.declared.entry.Entry.TheVariants.{Sent, Silent, Collision, Heard, Listed, Garbled, FieldCycle, Captured, Unknown}
use Rattle.vic_log.specs.Rounds.{IsInRound}
use Rattle.vic_log.specs.Populations.{Outcome, Nobody, Lone, Several, outcome_of, answerers_at}

abbrev pub IsOfSecondVersion : Entry → Type 0
IsOfSecondVersion (Sent q) = ⊤
IsOfSecondVersion Silent = ⊤
IsOfSecondVersion Collision = ⊤
IsOfSecondVersion (Heard r) = ⊤
IsOfSecondVersion (Listed u) = ⊤
IsOfSecondVersion Garbled = ⊤
IsOfSecondVersion FieldCycle = ⊤
IsOfSecondVersion (Captured r) = ⊥
IsOfSecondVersion Unknown = ⊥

-- all entries are of version 2
abbrev pub AreOfSecondVersion : List Entry → Type 0
AreOfSecondVersion es = (i : ℕ) (e : Entry) → slice_get es i ≡ Some e → IsOfSecondVersion e

abbrev pub FitsSecond : Entry → Outcome → Type 0
FitsSecond Silent o = o ≡ Nobody
FitsSecond (Heard r) o = o ≡ Lone r.uid
FitsSecond Collision o = o ≡ Several
FitsSecond Garbled o = o ≢ Nobody
FitsSecond (Sent q) o = ⊤
FitsSecond (Listed u) o = ⊤
FitsSecond FieldCycle o = ⊤
FitsSecond (Captured r) o = ⊤  -- not a line of version 2, as the next
FitsSecond Unknown o = ⊤

-- every slot line fits the outcome of its slot
abbrev pub CouldHaveGivenOutcomes : List ℕ → List Entry → Type 0
CouldHaveGivenOutcomes p es =
    (i : ℕ) (e : Entry) → slice_get es i ≡ Some e → FitsSecond e (outcome_of (answerers_at es i p))

-- the entry is a slot line
abbrev pub is_slot_in_second : Entry → Bool
is_slot_in_second Silent = true
is_slot_in_second Collision = true
is_slot_in_second (Heard r) = true
is_slot_in_second Garbled = true
is_slot_in_second (Sent q) = false
is_slot_in_second (Listed u) = false
is_slot_in_second FieldCycle = false
is_slot_in_second (Captured r) = false  -- not a line of version 2, as the next
is_slot_in_second Unknown = false

-- every slot line is in a round, no request and no field cycle comes after a listed UID, and no UID
-- is listed twice
pub record IsInOrderSecond (es : List Entry) : Type 0 where
  pub rounds : (i : ℕ) (e : Entry) → slice_get es i ≡ Some e → is_slot_in_second e ≡ true
      → IsInRound es i
  pub requests_first : (i j : ℕ) (u : ℕ) (q : Request) → i < j
      → slice_get es i ≡ Some (Listed u) → slice_get es j ≢ Some (Sent q)
  pub cycles_first : (i j : ℕ) (u : ℕ) → i < j → slice_get es i ≡ Some (Listed u)
      → slice_get es j ≢ Some FieldCycle
  pub once : (i j : ℕ) (u w : ℕ) → i < j → slice_get es i ≡ Some (Listed u)
      → slice_get es j ≡ Some (Listed w) → u ≢ w
