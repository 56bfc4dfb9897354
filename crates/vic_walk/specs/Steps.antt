-- Which parts each entry of a log concerns.
use Rattle.std.specs.Prelude.{◌≡◌, ℕ, ◌<◌, ◌≤◌, Bool, true, ◌&&◌, List, Some, length, nat_le, nat_lt, slice_get}
use Rattle.vic_frame.specs.LowBitsFirst.{mirror}
use Rattle.vic_frame.specs.Uids.{IsUid}
use Rattle.vic_log.specs.declared.entry.Entry.{Entry}
use Rattle.vic_log.specs.Rounds.{is_slot, mask_at, lies_in_some}
use Rattle.vic_log.specs.Slots.{hears}
use Rattle.vic_walk.specs.declared.log_parts.LogParts.{LogParts}
use Rattle.vic_walk.specs.declared.steps.Span.{Span}
use Rattle.vic_walk.specs.declared.steps.Step.{Step}
use Rattle.vic_walk.specs.Borders.{AreBorders, IsPartOf, part_count}
use Rattle.vic_walk.specs.Cuts.{AreCut, names}
use Rattle.vic_walk.specs.Listing.{IsListFrom}

-- the part is in the span
abbrev pub is_within : Span → ℕ → Bool
is_within s p = nat_le s.from p && nat_lt p s.to

-- the parts of the span are those whose UIDs lie in the mask at position i
abbrev pub IsSpanAt : List ℕ → List Entry → ℕ → Span → Type 0
IsSpanAt bs es i s =
    (u p : ℕ) → IsUid u → IsPartOf bs (mirror u) p
    → lies_in_some (mask_at es i) u ≡ is_within s p

-- the parts whose UIDs lie in the mask of a slot, by its step
abbrev pub span_of : Step → Span
span_of s = record { from = s.from; to = s.to }

-- the numbers of the step are among so many parts
pub record IsStepBelow (count : ℕ) (s : Step) : Type 0 where
  pub to : s.to ≤ count
  pub own : s.own < count

-- the step concerns the parts that the entry at position i does: if it is a slot line, those whose
-- UIDs lie in its mask; and if it names a UID, the part of that. Clause `heard` is of the entry
-- alone, whose reply might have any number: what it hears is a UID
pub record IsStepAt (bs : List ℕ) (es : List Entry) (i : ℕ) (s : Step) : Type 0 where
  pub below : IsStepBelow (part_count bs) s
  pub slot : (e : Entry) → slice_get es i ≡ Some e → is_slot e ≡ true
      → IsSpanAt bs es i (span_of s)
  pub named : (u : ℕ) → IsUid u → names (slice_get es i) u ≡ true → IsPartOf bs (mirror u) s.own
  pub heard : (u : ℕ) → hears (slice_get es i) u ≡ true → IsUid u

-- at position i of a log, for which the borders are cut, is this entry, with this step
pub record IsEntryAt (bs : List ℕ) (es : List Entry) (i : ℕ) (e : Entry) (s : Step) : Type 0 where
  pub here : slice_get es i ≡ Some e
  pub borders : AreBorders bs
  pub cut : AreCut bs es
  pub step : IsStepAt bs es i s

-- the parts are cut for the entries, and before the list of these each has its step
pub record AreLogParts (es : List Entry) (c : LogParts) : Type 0 where
  pub borders : AreBorders c.parts
  pub cut : AreCut c.parts es
  pub within : length c.steps.items ≤ length es
  pub list : IsListFrom es (length c.steps.items)
  pub steps : (i : ℕ) (s : Step) → slice_get c.steps.items i ≡ Some s → IsStepAt c.parts es i s
