-- What changes the tags of a row, and the position of a key among them.
use Rattle.std.specs.Prelude.{◌≡◌, ℕ, ◌<◌, ◌≤◌, Bool, true, false, not, ◌&&◌, List, length, map, slice_index_or, nat_eq}
use Rattle.std.specs.List.{insert}
use Rattle.vic_field.specs.declared.row.Row.{Row}
use Rattle.vic_field.specs.Positions.{is_quiet_position}

-- the same tags, all Ready
abbrev pub as_ready : List (ℕ × Bool) → List (ℕ × Bool)
as_ready es = map (λ e. (e.0, true)) es

-- the same tags, the one with this key Quiet
abbrev pub with_quiet : ℕ → List (ℕ × Bool) → List (ℕ × Bool)
with_quiet key es = map (λ e. (e.0, e.1 && not (nat_eq key e.0))) es

-- the first `from` keys are below this one, and those from position `to` on aren't
pub record HasKeyPositionBetween (key : ℕ) (ks : List ℕ) (from to : ℕ) : Type 0 where
  pub order : from ≤ to
  pub within : to ≤ length ks
  pub below : (k : ℕ) → k < from → slice_index_or ks k 0 < key
  pub above : (k : ℕ) → to ≤ k → k < length ks → key ≤ slice_index_or ks k 0

-- that many keys are below this one, and those after them aren't
abbrev pub IsKeyPosition : ℕ → List ℕ → ℕ → Type 0
IsKeyPosition key ks position = HasKeyPositionBetween key ks position position

-- from a position on, no tag is Ready whose key is at most this one
abbrev pub HasNoneReady : Row → ℕ → ℕ → Type 0
HasNoneReady r from last =
    (k : ℕ) → from ≤ k → k < length r.keys.items → slice_index_or r.keys.items k 0 ≤ last
    → is_quiet_position r.quiet k ≡ true

-- the position of the first one that is
pub record IsNextReady (r : Row) (from last position : ℕ) : Type 0 where
  pub low : from ≤ position
  pub there : position < length r.keys.items
  pub key : slice_index_or r.keys.items position 0 ≤ last
  pub quiet : (k : ℕ) → from ≤ k → k < position → is_quiet_position r.quiet k ≡ true
  pub ready : is_quiet_position r.quiet position ≡ false

-- one more tag at some position, Ready
abbrev pub HasMore : ℕ → List (ℕ × Bool) → List (ℕ × Bool) → Type 0
HasMore key old new = (i : ℕ) × (new ≡ insert old i (key, true))
