-- Which slot lines say no more than others.
use Rattle.std.specs.Prelude.{◌≡◌, ◌⊎◌, ℕ, ◌==◌, Bool, true, false, Some, List, length, slice_get}
use Rattle.vic_log.specs.declared.entry.Entry.{Entry}
use Rattle.vic_log.specs.declared.entry.Entry.TheVariants.{Silent, Collision, Heard, Garbled, Captured, Unknown}
use Rattle.vic_log.specs.Populations.{Fits}
use Rattle.vic_log.specs.Rounds.{is_slot}

-- whatever fits the second entry fits the first
abbrev pub FitsMore : Entry → Entry → Type 0
FitsMore d e = (us : List ℕ) → Fits e us → Fits d us

-- an entry is weaker than another if it is the same, or if both are slot lines, and whatever fits
-- the other fits it
abbrev pub IsWeaker : Entry → Entry → Type 0
IsWeaker d e = (d ≡ e) ⊎ ((is_slot d ≡ true) × (is_slot e ≡ true) × FitsMore d e)

-- as many entries, each weaker than the other at its position
pub record AreWeaker (ds es : List Entry) : Type 0 where
  pub as_many : length ds ≡ length es
  pub each : (i : ℕ) (d e : Entry) → slice_get ds i ≡ Some d → slice_get es i ≡ Some e
      → IsWeaker d e

-- for each slot line those that are weaker
abbrev pub is_weaker : Entry → Entry → Bool
is_weaker Unknown e = true
is_weaker Silent Silent = true
is_weaker Collision Collision = true
is_weaker Garbled Garbled = true
is_weaker Garbled Collision = true
is_weaker Garbled (Heard s) = true
is_weaker Garbled (Captured s) = true
is_weaker (Heard r) (Heard s) = r.uid == s.uid
is_weaker (Captured r) (Heard s) = r.uid == s.uid
is_weaker (Captured r) (Captured s) = r.uid == s.uid
is_weaker d e = false
