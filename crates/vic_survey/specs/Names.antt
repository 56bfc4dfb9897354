-- The names of logs.
use Rattle.std.specs.Prelude.{◌≢◌, ℕ, ◌<◌, ◌≤◌, List, length}
use Rattle.std.specs.List.{All}
use Rattle.std.specs.Str.{IsUtf8}
use Rattle.vic_survey.specs.declared.name.TheConstants.{MAX_NAME_LEN}

-- no control character
abbrev pub IsVisible : ℕ → Type 0
IsVisible b = (0x20 ≤ b) × (b ≢ 0x7F)

-- the name of a log (profile)
pub record IsName (name : List ℕ) : Type 0 where
  pub some : 0 < length name
  pub short : length name ≤ MAX_NAME_LEN
  pub utf8 : IsUtf8 name
  pub visible : All IsVisible name
