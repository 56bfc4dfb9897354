-- What comes behind a list in rising order.
use Rattle.std.specs.Prelude.{ℕ, ◌-◌, ◌==◌, Bool, true, Option, Some, None, List, length, slice_get, nat_lt, if◌then◌else◌}
use Rattle.vic_frame.specs.Masks.{BitMask}
use Rattle.vic_report.specs.declared.shown.ShownUid.{ShownUid}

-- the UID is above the last one
abbrev pub is_above_last : Option ShownUid → ℕ → Bool
is_above_last None u = true
is_above_last (Some s) u = nat_lt s.uid u

abbrev pub is_above : List ShownUid → ℕ → Bool
is_above us u = is_above_last (slice_get us (length us - 1)) u

-- the first mask comes before the second, by length, then by value
abbrev pub comes_before : BitMask → BitMask → Bool
comes_before m n =
    if m.len == n.len then nat_lt m.value n.value else nat_lt m.len n.len

-- the mask comes behind the last one
abbrev pub is_behind_last : Option BitMask → BitMask → Bool
is_behind_last None m = true
is_behind_last (Some n) m = comes_before n m

abbrev pub is_behind : List BitMask → BitMask → Bool
is_behind ms m = is_behind_last (slice_get ms (length ms - 1)) m
