-- The round that is open at a position in a list of entries, found by looking back.
use Rattle.std.specs.Prelude.{◌≡◌, ℕ, suc, ◌-◌, ◌≤◌, Option, Some, None, List, slice_get, IfSome}
use Rattle.vic_log.specs.declared.entry.Entry.{Entry}
use Rattle.vic_log.specs.declared.entry.Entry.TheVariants.{Sent}
use Rattle.vic_log.specs.declared.rounds.OpenRound.{OpenRound}
use Rattle.vic_log.specs.declared.rounds.RoundCursor.{RoundCursor}
use Rattle.vic_log.specs.Rounds.{opener}

-- the round that an entry opens, k slots later
abbrev pub round_of : Option Entry → ℕ → Option OpenRound
round_of (Some (Sent q)) k = Some (record { request = q; next = k })
round_of (Some e) k = None
round_of None k = None

-- the round that is open at position i, by the position of its opener
abbrev pub round_since : List Entry → ℕ → Option ℕ → Option OpenRound
round_since es i None = None
round_since es i (Some j) = round_of (slice_get es j) (i - suc j)

-- the round that is open at position i: the one that its opener opened
abbrev pub round_at : List Entry → ℕ → Option OpenRound
round_at es i = round_since es i (opener es i)

-- the cursor is at position i
pub record IsCursorAt (es : List Entry) (i : ℕ) (c : RoundCursor) : Type 0 where
  pub open_round : c.round ≡ round_at es i
  pub few_slots : IfSome c.round (λ r. r.next ≤ 16)
