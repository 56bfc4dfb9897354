-- What a log says, slot by slot, without its requests and positions: for each slot line of which
-- something is known, which tags would answer, and what was read; and which UIDs that leaves open.
use Rattle.std.specs.Prelude.{◌≡◌, ◌≢◌, ◌⊎◌, ℕ, zero, suc, ◌==◌, Bool, true, false, not, ◌&&◌, ◌||◌, Option, Some, None, List, [], ◌∷◌, ⊤, slice_get, length}
use Rattle.std.specs.List.{list_all, AllByRecursion}
use Rattle.std.specs.Option.{is_some}
use Rattle.vic_log.specs.declared.entry.Entry.{Entry}
use Rattle.vic_log.specs.declared.entry.Entry.TheVariants.{Sent, Silent, Collision, Heard, Listed, Garbled, FieldCycle, Captured, Unknown}
use Rattle.vic_frame.specs.Uids.{is_uid}
use Rattle.vic_log.specs.Populations.{answers_at}

-- the entry is a reply of this UID
abbrev pub hears : Option Entry → ℕ → Bool
hears (Some (Heard r)) u = r.uid == u
hears (Some (Captured r)) u = r.uid == u
hears (Some e) u = false
hears None u = false

-- what was read in a slot
pub data Reading : Type 0 where
  NoReply : Reading
  OneReply : (uid : ℕ) → Reading
  ManyReplies : Reading
  SomeReply : Reading
  ReplyAmong : (uid : ℕ) → Reading  -- this one, alone or among others

pub record Slot : Type 0 where
  pub answers : ℕ → Bool  -- the UIDs of the tags that answer, if they are in the field
  pub reading : Reading

-- the reading of a slot line, unless nothing is known of the slot
abbrev pub reading_of : Entry → Option Reading
reading_of Silent = Some NoReply
reading_of (Heard r) = Some (OneReply r.uid)
reading_of Collision = Some ManyReplies
reading_of Garbled = Some SomeReply
reading_of (Captured r) = Some (ReplyAmong r.uid)
reading_of Unknown = None
reading_of (Sent q) = None
reading_of (Listed u) = None
reading_of FieldCycle = None

-- the entry is a slot line that tells something of its slot
abbrev pub tells : Entry → Bool
tells e = is_some (reading_of e)

-- with one more slot, if there is one
abbrev pub with_reading : (ℕ → Bool) → Option Reading → List Slot → List Slot
with_reading answers None slots = slots
with_reading answers (Some r) slots = record { answers = answers; reading = r } ∷ slots

-- with the slot of an entry, if it is a slot line of which something is known
abbrev pub with_entry : (ℕ → Bool) → Option Entry → List Slot → List Slot
with_entry answers None slots = slots
with_entry answers (Some e) slots = with_reading answers (reading_of e) slots

-- the slots of the first n entries, last one first
abbrev pub slots_before : List Entry → ℕ → List Slot
slots_before es zero = []
slots_before es (suc i) = with_entry (answers_at es i) (slice_get es i) (slots_before es i)

-- the slots of all entries
abbrev pub slots_of : List Entry → List Slot
slots_of es = slots_before es (length es)

-- by this reading alone, a tag that answers (or doesn't) may be in the field
abbrev pub may_be : Reading → Bool → ℕ → Bool
may_be NoReply answers u = not answers
may_be (OneReply h) answers u = not answers || (u == h)
may_be ManyReplies answers u = true
may_be SomeReply answers u = true
may_be (ReplyAmong h) answers u = true

-- by this slot alone, the UID may be in the field
abbrev pub allows : ℕ → Slot → Bool
allows u s = may_be s.reading (s.answers u) u

-- the UID is open: no slot rules it out
abbrev pub is_open : List Slot → ℕ → Bool
is_open slots u = is_uid u && list_all (allows u) slots

-- what a reading requires of the set of tags that could have answered
abbrev pub Asks : Reading → (ℕ → Bool) → Type 0
Asks NoReply t = ⊤
Asks (OneReply h) t = t h ≡ true
Asks ManyReplies t = (u v : ℕ) × (u ≢ v) × (t u ≡ true) × (t v ≡ true)
Asks SomeReply t = (u : ℕ) × (t u ≡ true)
Asks (ReplyAmong h) t = t h ≡ true

-- the set of UIDs has the tags that the slot requires
abbrev pub Supplies : (ℕ → Bool) → Slot → Type 0
Supplies set s = Asks s.reading (λ u. set u && s.answers u)

abbrev pub SuppliesAll : (ℕ → Bool) → List Slot → Type 0
SuppliesAll set slots = AllByRecursion (Supplies set) slots

-- the reading shows that the UID is there; t are the UIDs that could have answered
abbrev pub Forces : Reading → (ℕ → Bool) → ℕ → Type 0
Forces NoReply t u = ⊥
Forces (OneReply h) t u = h ≡ u
Forces ManyReplies t u =
    (v : ℕ) × (v ≢ u) × (t u ≡ true) × (t v ≡ true)
    × ((w : ℕ) → t w ≡ true → (w ≡ u) ⊎ (w ≡ v))
Forces SomeReply t u = (t u ≡ true) × ((w : ℕ) → t w ≡ true → w ≡ u)
Forces (ReplyAmong h) t u = h ≡ u

-- some slot shows that the UID is there, by the open UIDs
abbrev pub IsForcedBy : (ℕ → Bool) → List Slot → ℕ → Type 0
IsForcedBy set [] u = ⊥
IsForcedBy set (s ∷ slots) u =
    Forces s.reading (λ w. set w && s.answers w) u ⊎ IsForcedBy set slots u
