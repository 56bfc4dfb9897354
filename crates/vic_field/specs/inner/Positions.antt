-- A position that is put between others.
use Rattle.std.specs.Prelude.{◌≡◌, ℕ, ◌+◌, ◌<◌, ◌≤◌, false}
use Rattle.vic_field.specs.declared.quiet.QuietPositions.{QuietPositions}
use Rattle.vic_field.specs.Positions.{is_quiet_position}

-- of `count` positions, those before `gap` are as they were, `gap` is Ready, and those after it
-- have moved by one
pub record IsMoved (gap count : ℕ) (old new : QuietPositions) : Type 0 where
  pub before : (k : ℕ) → k < gap → is_quiet_position new k ≡ is_quiet_position old k
  pub put : is_quiet_position new gap ≡ false
  pub after : (k : ℕ) → gap ≤ k → k + 1 < count
      → is_quiet_position new (k + 1) ≡ is_quiet_position old k
