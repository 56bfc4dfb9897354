-- The rules of log version 1, which has no garbled slots, no field cycles, and none of the lines of
-- version 3.
use Rattle.std.specs.Prelude.{◌≡◌, ◌≢◌, ℕ, zero, suc, ◌-◌, ◌<◌, Bool, true, false, not, ◌&&◌, ◌||◌, Option, Some, None, List, ⊤, slice_get, if◌then◌else◌}
use Rattle.std.specs.List.{filter}
use Rattle.vic_frame.specs.Slots.{slot_count}
use Rattle.vic_frame.specs.declared.request.Request.{Request}
use Rattle.vic_log.specs.declared.entry.Entry.{Entry}
use Rattle.vic_log.specs.declared.entry.Entry.TheVariants.{Sent, Silent, Collision, Heard, Listed, Garbled, FieldCycle, Captured, Unknown}
use Rattle.vic_log.specs.Quiet.{silences}
use Rattle.vic_log.specs.Populations.{Outcome, Nobody, Lone, Several, outcome_of}
use Rattle.vic_log.specs.Rounds.{mask_since, lies_in_some}

abbrev pub IsOfFirstVersion : Entry → Type 0
IsOfFirstVersion (Sent q) = ⊤
IsOfFirstVersion Silent = ⊤
IsOfFirstVersion Collision = ⊤
IsOfFirstVersion (Heard r) = ⊤
IsOfFirstVersion (Listed u) = ⊤
IsOfFirstVersion Garbled = ⊥
IsOfFirstVersion FieldCycle = ⊥
IsOfFirstVersion (Captured r) = ⊥
IsOfFirstVersion Unknown = ⊥

-- all entries are of version 1
abbrev pub AreOfFirstVersion : List Entry → Type 0
AreOfFirstVersion es = (i : ℕ) (e : Entry) → slice_get es i ≡ Some e → IsOfFirstVersion e

abbrev pub ends_round_in_first : Option Entry → Bool
ends_round_in_first (Some (Sent q)) = true
ends_round_in_first (Some (Listed u)) = true
ends_round_in_first (Some e) = false
ends_round_in_first None = false

abbrev pub opener_in_first : List Entry → ℕ → Option ℕ
opener_in_first es zero = None
opener_in_first es (suc j) =
    if ends_round_in_first (slice_get es j) then Some j else opener_in_first es j

abbrev pub is_quiet_in_first : List Entry → ℕ → ℕ → Bool
is_quiet_in_first es zero u = false
is_quiet_in_first es (suc j) u = silences (slice_get es j) u || is_quiet_in_first es j u

abbrev pub FitsFirst : Entry → Outcome → Type 0
FitsFirst Silent o = o ≡ Nobody
FitsFirst (Heard r) o = o ≡ Lone r.uid
FitsFirst Collision o = o ≡ Several
FitsFirst (Sent q) o = ⊤
FitsFirst (Listed u) o = ⊤
FitsFirst Garbled o = ⊤  -- not a line of version 1, as all below
FitsFirst FieldCycle o = ⊤
FitsFirst (Captured r) o = ⊤
FitsFirst Unknown o = ⊤

-- a tag with this UID answers in the slot at position i
abbrev pub answers_at_in_first : List Entry → ℕ → ℕ → Bool
answers_at_in_first es i u =
    lies_in_some (mask_since es i (opener_in_first es i)) u && not (is_quiet_in_first es i u)

-- every slot line fits the outcome of its slot
abbrev pub CouldHaveGivenFirst : List ℕ → List Entry → Type 0
CouldHaveGivenFirst p es =
    (i : ℕ) (e : Entry) → slice_get es i ≡ Some e
    → FitsFirst e (outcome_of (filter (answers_at_in_first es i) p))

-- the entry is a slot line
abbrev pub is_slot_in_first : Entry → Bool
is_slot_in_first Silent = true
is_slot_in_first Collision = true
is_slot_in_first (Heard r) = true
is_slot_in_first (Sent q) = false
is_slot_in_first (Listed u) = false
is_slot_in_first Garbled = false  -- not a line of version 1, as all below
is_slot_in_first FieldCycle = false
is_slot_in_first (Captured r) = false
is_slot_in_first Unknown = false

-- position i is a slot of the request that its opener sent
abbrev pub IsInRoundFirst : List Entry → ℕ → Type 0
IsInRoundFirst es i =
    (j : ℕ) × (q : Request)
    × (opener_in_first es i ≡ Some j) × (slice_get es j ≡ Some (Sent q))
    × (i - suc j < slot_count q)

-- every slot line is in a round, no request comes after a listed UID, and no UID is listed twice
pub record IsInOrderFirst (es : List Entry) : Type 0 where
  pub rounds : (i : ℕ) (e : Entry) → slice_get es i ≡ Some e → is_slot_in_first e ≡ true
      → IsInRoundFirst es i
  pub requests_first : (i j : ℕ) (u : ℕ) (q : Request) → i < j
      → slice_get es i ≡ Some (Listed u) → slice_get es j ≢ Some (Sent q)
  pub once : (i j : ℕ) (u w : ℕ) → i < j → slice_get es i ≡ Some (Listed u)
      → slice_get es j ≡ Some (Listed w) → u ≢ w
