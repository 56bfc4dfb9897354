-- The steps of a simulation.
use Rattle.std.specs.Prelude.{◌≡◌, ℕ, zero, suc, ◌+◌, ◌≤◌, Bool, not, ◌&&◌, ◌||◌, Some, None, List, [], ◌∷◌, ◌++◌}
use Rattle.vic_frame.specs.declared.request.Request.{Request}
use Rattle.std.specs.Option.{option_map}
use Rattle.vic_frame.specs.Slots.{slot_count, mask_in}
use Rattle.vic_frame.specs.Uids.{IsUid}
use Rattle.vic_log.specs.declared.entry.Entry.{Entry}
use Rattle.vic_log.specs.declared.entry.Entry.TheVariants.{Sent, Silent as SilentLine, Collision, Heard}
use Rattle.vic_log.specs.declared.entry.TheConstants.{MAX_LINES}
use Rattle.vic_log.specs.declared.entry.Version.TheVariants.{V1, V2}
use Rattle.vic_log.specs.FirstVersion.{IsOfFirstVersion}
use Rattle.vic_log.specs.Log.{IsValidEntry, LogValue, last_from}
use Rattle.vic_log.specs.Order.{entries, refusal}
use Rattle.vic_log.specs.Quiet.{silences, wakes}
use Rattle.vic_log.specs.Rounds.{slots_opened}
use Rattle.vic_log.specs.SecondVersion.{IsOfSecondVersion}
use Rattle.vic_field.specs.declared.outcome.Outcome.{Outcome}
use Rattle.vic_field.specs.declared.outcome.Outcome.TheVariants.{Silent, Lone, Several}
use Rattle.vic_log.specs.Writing.{numbered}
use Rattle.vic_field.specs.Tags.{ready_in, readiness, heard}

-- the slot line of what is heard
abbrev pub slot_line : Outcome → Entry
slot_line Silent = SilentLine
slot_line (Lone u) = Heard (record { flags = 0; dsfid = 0; uid = u })
slot_line Several = Collision

-- the lines of the first n slots of a request
abbrev pub slot_lines_to : List (ℕ × Bool) → Request → ℕ → List Entry
slot_lines_to tags q zero = []
slot_lines_to tags q (suc k) =
    slot_lines_to tags q k ++ slot_line (heard (ready_in (mask_in q k) tags)) ∷ []

-- the lines of all slots that an entry opens
abbrev pub slot_lines : List (ℕ × Bool) → Entry → List Entry
slot_lines tags (Sent q) = slot_lines_to tags q (slot_count q)
slot_lines tags e = []

-- the number of the line after a log's last one
abbrev pub next_line : LogValue → ℕ
next_line log = suc (last_from 1 log.lines)

-- the entry may come next, and there is room for it and a line for each slot that it opens
pub record FitsNext (log : LogValue) (e : Entry) : Type 0 where
  pub follows : refusal (entries log.lines) e ≡ None
  pub valid : IsValidEntry e
  pub first_version : log.version ≡ V1 → IsOfFirstVersion e
  pub second_version : log.version ≡ V2 → IsOfSecondVersion e
  pub room : next_line log + slots_opened (Some e) ≤ MAX_LINES

-- a log with more entries on the next lines
abbrev pub with_entries : LogValue → List Entry → LogValue
with_entries log es =
    record { lines = log.lines ++ numbered (next_line log) es; version = log.version }

-- whether the tag u is Ready after an entry, given whether it was before
abbrev pub ready_after : Entry → ℕ → Bool → Bool
ready_after e u ready = not (silences (Some e) u) && (wakes (Some e) || ready)

-- the tags after an entry, given the tags before it
abbrev pub IsAfter : Entry → List (ℕ × Bool) → List (ℕ × Bool) → Type 0
IsAfter e old new =
    (u : ℕ) → IsUid u → readiness new u ≡ option_map (ready_after e u) (readiness old u)
