-- What the simulation of a log returns: its entries, with a line for each slot.
use Rattle.std.specs.Prelude.{◌≡◌, ℕ, suc, ◌+◌, ◌<◌, ◌≤◌, true, false, not, Some, List, [], ◌∷◌, ⊤, length, slice_get}
use Rattle.std.specs.List.{filter}
use Rattle.vic_frame.specs.declared.request.Request.{Request}
use Rattle.vic_frame.specs.Slots.{slot_count}
use Rattle.vic_log.specs.declared.entry.Entry.{Entry}
use Rattle.vic_log.specs.declared.entry.Entry.TheVariants.{Sent, Heard, Garbled, Captured, Unknown}
use Rattle.vic_log.specs.declared.entry.LogLine.{LogLine}
use Rattle.vic_log.specs.declared.entry.TheConstants.{MAX_LINES}
use Rattle.vic_log.specs.Order.{entries, listed}
use Rattle.vic_log.specs.Populations.{IsPopulation, CouldHaveGiven}
use Rattle.vic_log.specs.Rounds.{is_slot, slots_opened}
use Rattle.vic_log.specs.Writing.{numbered}
use Rattle.vic_field.specs.declared.session.SimFault.{SimFault}
use Rattle.vic_field.specs.declared.session.SimFault.TheVariants.{OutcomeGiven, TooManyLines, Memory}

-- the entries that aren't slot lines
abbrev pub without_slots : List Entry → List Entry
without_slots es = filter (λ e. not (is_slot e)) es

-- each request is followed by a line for each of its slots
abbrev pub HasAllSlots : List Entry → Type 0
HasAllSlots es =
    (i k : ℕ) (q : Request) → slice_get es i ≡ Some (Sent q) → k < slot_count q
    → (e : Entry) × (slice_get es (suc i + k) ≡ Some e) × (is_slot e ≡ true)

-- no reply is garbled or captured, no slot is unknown, and a reply has flags 0 and DSFID 0
abbrev pub IsPlain : Entry → Type 0
IsPlain (Heard r) = (r.flags ≡ 0) × (r.dsfid ≡ 0)
IsPlain Garbled = ⊥
IsPlain (Captured r) = ⊥
IsPlain Unknown = ⊥
IsPlain e = ⊤

abbrev pub ArePlain : List Entry → Type 0
ArePlain es = (i : ℕ) (e : Entry) → slice_get es i ≡ Some e → IsPlain e

-- how lines are filled in: the given ones stay, each slot has its line, and the listed UIDs are a
-- population that could have produced all of them
pub record IsSimulation (given filled : List LogLine) : Type 0 where
  pub kept : without_slots (entries filled) ≡ entries given
  pub slots : HasAllSlots (entries filled)
  pub population : IsPopulation (listed (entries given))
  pub outcomes : CouldHaveGiven (listed (entries given)) (entries filled)
  pub plain : ArePlain (entries filled)
  pub numbers : filled ≡ numbered 2 (entries filled)

-- how many lines the entries need, with all their slots
abbrev pub line_count : List Entry → ℕ
line_count [] = 0
line_count (e ∷ es) = suc (slots_opened (Some e)) + line_count es

-- the number of the last of them, after the header
abbrev pub last_needed : List LogLine → ℕ
last_needed lines = suc (line_count (entries lines))

-- none of the first n lines is a slot line
abbrev pub HasNoSlotsBefore : ℕ → List LogLine → Type 0
HasNoSlotsBefore n lines =
    (i : ℕ) (l : LogLine) → i < n → slice_get lines i ≡ Some l → is_slot l.item ≡ false

-- no line is a slot line
abbrev pub HasNoSlots : List LogLine → Type 0
HasNoSlots lines = HasNoSlotsBefore (length lines) lines

-- the first slot line has the number n
pub record IsFirstSlot (lines : List LogLine) (n : ℕ) : Type 0 where
  pub position : ℕ
  pub line : LogLine
  pub here : slice_get lines position ≡ Some line
  pub number : line.number ≡ n
  pub tells : is_slot line.item ≡ true
  pub first : HasNoSlotsBefore position lines

-- why lines aren't simulated: one is a slot line; else more lines would be needed than a log may
-- have; else memory was refused
abbrev pub RefusesLines : List LogLine → SimFault → Type 0
RefusesLines lines (OutcomeGiven n) = IsFirstSlot lines n
RefusesLines lines TooManyLines = HasNoSlots lines × (MAX_LINES < last_needed lines)
RefusesLines lines Memory = HasNoSlots lines × (last_needed lines ≤ MAX_LINES)
