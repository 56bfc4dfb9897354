-- Entries in the order of a log.
use Rattle.std.specs.Prelude.{◌≡◌, ◌≢◌, ℕ, ◌<◌, Bool, true, false, not, Option, Some, None, List, [], ◌∷◌, map, ⊤, length, slice_get, nat_lt, if◌then◌else◌}
use Rattle.vic_frame.specs.declared.request.Request.{Request}
use Rattle.vic_frame.specs.Requests.{IsValid}
use Rattle.vic_frame.specs.Uids.{has}
use Rattle.vic_log.specs.declared.entry.Entry.{Entry}
use Rattle.vic_log.specs.declared.entry.Entry.TheVariants.{Sent, Listed, FieldCycle}
use Rattle.vic_log.specs.declared.entry.LogLine.{LogLine}
use Rattle.vic_log.specs.declared.fault.PushFault.{PushFault}
use Rattle.vic_log.specs.declared.fault.PushFault.TheVariants.{SlotOutsideRound, EntryAfterList, DuplicateListed}
use Rattle.vic_log.specs.Rounds.{is_slot, IsInRound, slots_left}

-- the UIDs that the entries list, in order
abbrev pub listed : List Entry → List ℕ
listed [] = []
listed (Listed u ∷ es) = u ∷ listed es
listed (e ∷ es) = listed es

-- every slot line is in a round, no request and no field cycle comes after a listed UID, and no UID
-- is listed twice
pub record IsInOrder (es : List Entry) : Type 0 where
  pub rounds : (i : ℕ) (e : Entry) → slice_get es i ≡ Some e → is_slot e ≡ true
      → IsInRound es i
  pub requests_first : (i j : ℕ) (u : ℕ) (q : Request) → i < j
      → slice_get es i ≡ Some (Listed u) → slice_get es j ≢ Some (Sent q)
  pub cycles_first : (i j : ℕ) (u : ℕ) → i < j → slice_get es i ≡ Some (Listed u)
      → slice_get es j ≢ Some FieldCycle
  pub once : (i j : ℕ) (u w : ℕ) → i < j → slice_get es i ≡ Some (Listed u)
      → slice_get es j ≡ Some (Listed w) → u ≢ w

-- a slot line when no slot of a round is left
abbrev pub is_outside_round : List Entry → Entry → Bool
is_outside_round es e = if is_slot e then not (nat_lt 0 (slots_left es (length es))) else false

abbrev pub is_empty : List ℕ → Bool
is_empty [] = true
is_empty (u ∷ us) = false

-- a request or a field cycle after a listed UID
abbrev pub is_after_list : List Entry → Entry → Bool
is_after_list es (Sent q) = not (is_empty (listed es))
is_after_list es FieldCycle = not (is_empty (listed es))
is_after_list es e = false

-- a UID listed before
abbrev pub is_duplicate : List Entry → Entry → Bool
is_duplicate es (Listed u) = has (listed es) u
is_duplicate es e = false

-- the first reason why an entry can't follow others in order, named by these three
abbrev pub first_reason : {F : Type 0} → F → F → F → List Entry → Entry → Option F
first_reason outside_round after_list duplicate es e =
    if is_outside_round es e then Some outside_round
    else if is_after_list es e then Some after_list
    else if is_duplicate es e then Some duplicate
    else None

-- why a log refuses an entry after others
abbrev pub refusal : List Entry → Entry → Option PushFault
refusal es e = first_reason SlotOutsideRound EntryAfterList DuplicateListed es e

-- each request that was sent is valid
abbrev pub AreValid : List Entry → Type 0
AreValid es = (i : ℕ) (q : Request) → slice_get es i ≡ Some (Sent q) → IsValid q

-- the entries of a log's lines
abbrev pub entries : List LogLine → List Entry
entries lines = map (λ l. l.item) lines

-- the numbers of a log's lines
abbrev pub numbers : List LogLine → List ℕ
numbers lines = map (λ l. l.number) lines

-- the line numbers rise, and are above n
abbrev pub IsRisingFrom : ℕ → List LogLine → Type 0
IsRisingFrom n [] = ⊤
IsRisingFrom n (l ∷ lines) = (n < l.number) × IsRisingFrom l.number lines
