-- What a walk over the entries of a log knows of its parts.
use Rattle.std.specs.Prelude.{◌≡◌, ℕ, zero, suc, ◌<◌, Bool, true, false, not, ◌&&◌, ◌||◌, Option, Some, None, List, length, slice_get, slice_index}
use Rattle.vic_frame.specs.Uids.{IsUid, has}
use Rattle.vic_frame.specs.LowBitsFirst.{mirror}
use Rattle.vic_log.specs.declared.entry.Entry.{Entry}
use Rattle.vic_log.specs.Populations.{answers_at}
use Rattle.vic_log.specs.Quiet.{is_quiet}
use Rattle.vic_log.specs.Slots.{hears, slots_before, slots_of, is_open}
use Rattle.vic_walk.specs.declared.log_walk.LogWalk.{LogWalk}
use Rattle.vic_walk.specs.declared.part_states.PartStates.{PartStates}
use Rattle.vic_walk.specs.Borders.{IsPartOf, part_count}
use Rattle.vic_walk.specs.Marked.{is_marked}
use Rattle.vic_walk.specs.Steps.{AreLogParts}

-- the UID was heard before position i
abbrev pub was_heard : List Entry → ℕ → ℕ → Bool
was_heard es zero u = false
was_heard es (suc j) u = hears (slice_get es j) u || was_heard es j u

-- 0 while the UID is open; else one more than the position of the entry that rules it out
abbrev pub IsEnd : List Entry → ℕ → ℕ → ℕ → Type 0
IsEnd es i u zero = is_open (slots_before es i) u ≡ true
IsEnd es i u (suc j) =
    (j < i) × (is_open (slots_before es j) u ≡ true)
    × (is_open (slots_before es (suc j)) u ≡ false)

-- before position i, these are the parts of a set of UIDs: of those that are Ready, and of those
-- that are Quiet
pub record AreStatesAt (bs : List ℕ) (es : List Entry) (set : ℕ → Bool) (i : ℕ) (s : PartStates)
    : Type 0 where
  pub room : length s.ready ≡ part_count bs
  pub ready : (u p : ℕ) → IsUid u → IsPartOf bs (mirror u) p
      → is_marked s.ready p ≡ (set u && not (is_quiet es i u))
  pub quiet : (u p : ℕ) → IsUid u → IsPartOf bs (mirror u) p
      → has s.quiet.items p ≡ (set u && is_quiet es i u)

-- before position i, the part of each UID has the end of the UID
pub record AreEndsAt (bs : List ℕ) (es : List Entry) (i : ℕ) (ends : List ℕ) : Type 0 where
  pub room : length ends ≡ part_count bs
  pub each : (u p : ℕ) → IsUid u → IsPartOf bs (mirror u) p → IsEnd es i u (slice_index ends p)

-- each UID heard before position i could answer where it was heard, and is open
pub record AreBorneOut (es : List Entry) (i : ℕ) : Type 0 where
  pub answer : (j u : ℕ) → j < i → hears (slice_get es j) u ≡ true → answers_at es j u ≡ true
  pub openness : (u : ℕ) → was_heard es i u ≡ true → is_open (slots_before es i) u ≡ true

-- where a walk ends: after the last entry, where all replies are borne out, or after the first
-- entry with which they aren't
abbrev pub IsEndOfWalk : List ℕ → List Entry → LogWalk → Option ℕ → Type 0
IsEndOfWalk bs es w None =
    AreStatesAt bs es (is_open (slots_of es)) (length es) w.open
    × AreEndsAt bs es (length es) w.ends.items
    × AreBorneOut es (length es)
IsEndOfWalk bs es w (Some i) =
    (i < length es) × AreStatesAt bs es (is_open (slots_before es (suc i))) (suc i) w.open
    × AreEndsAt bs es (suc i) w.ends.items
    × AreBorneOut es i × (AreBorneOut es (suc i) → ⊥)

-- the parts are cut for the entries, and the walk over these ends where it says
pub record IsLogWalk (es : List Entry) (w : LogWalk) : Type 0 where
  pub parts : AreLogParts es w.log_parts
  pub walk : IsEndOfWalk w.log_parts.parts es w w.broken
