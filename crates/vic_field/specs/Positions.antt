-- Which positions of a row are Quiet.
use Rattle.std.specs.Prelude.{ℕ, ◌*◌, ◌≤◌, Bool, length}
use Rattle.vic_field.specs.declared.quiet.QuietPositions.{QuietPositions}
use Rattle.vic_field.specs.declared.quiet.TheConstants.{WORD}
use Rattle.vic_field.specs.Bits.{is_set}

-- position k is Quiet
abbrev pub is_quiet_position : QuietPositions → ℕ → Bool
is_quiet_position q k = is_set q.stretch q.positions.items k

-- there is a bit for each of that many positions
abbrev pub HasRoomFor : ℕ → QuietPositions → Type 0
HasRoomFor count q = count ≤ length q.positions.items * WORD
