-- The least margin of some keys.
use Rattle.std.specs.Prelude.{◌≡◌, ℕ, ◌≤◌, Bool, true, not, ◌&&◌, Option, Some, None, List, IfSome, nat_lt, slice_index, if◌then◌else◌}
use Rattle.vic_frame.specs.Uids.{has}
use Rattle.vic_walk.specs.Borders.{IsPartOf}

-- the lesser of two numbers, if the first is there
abbrev pub lesser : Option ℕ → ℕ → ℕ
lesser (Some m) n = if nat_lt m n then m else n
lesser None n = n

-- there is a number, and it isn't above this one
abbrev pub IsUpTo : Option ℕ → ℕ → Type 0
IsUpTo (Some m) n = m ≤ n
IsUpTo None n = ⊥

-- a wanted key whose part has this margin
pub record HasMargin (bs margins : List ℕ) (wanted : ℕ → Bool) (m : ℕ) : Type 0 where
  pub key : ℕ
  pub part : ℕ
  pub is_wanted : wanted key ≡ true
  pub of : IsPartOf bs key part
  pub margin : slice_index margins part ≡ m

-- the least margin of the wanted keys
pub record IsLeastOf (bs margins : List ℕ) (wanted : ℕ → Bool) (r : Option ℕ) : Type 0 where
  pub found : IfSome r (HasMargin bs margins wanted)
  pub least : (k p : ℕ) → wanted k ≡ true → IsPartOf bs k p → IsUpTo r (slice_index margins p)

-- a key below `end` that isn't in the list
abbrev pub is_free : List ℕ → ℕ → ℕ → Bool
is_free keys end k = nat_lt k end && not (has keys k)
