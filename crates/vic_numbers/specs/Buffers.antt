-- Lists in a caller's buffer.
use Rattle.std.specs.Prelude.{◌≡◌, ℕ, ◌<◌, ◌≤◌, List, ◌++◌, length, drop}

-- a list is put at the start of a buffer, which is unchanged behind it; a buffer that is too small
-- is unchanged
pub record IsPutInto {T : Type 0} (list room room' : List T) : Type 0 where
  pub fits : length list ≤ length room → room' ≡ list ++ drop (length list) room
  pub too_small : length room < length list → room' ≡ room

-- a list is returned: it is put into a buffer, if it fits, and `count` says how long it is
pub record IsReturned {T : Type 0} (list room room' : List T) (count : ℕ) : Type 0 where
  pub counted : count ≡ length list
  pub put : IsPutInto list room room'
