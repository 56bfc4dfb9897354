-- What a log keeps beside its lines, to see at once what may follow.
use Rattle.std.specs.Prelude.{◌≡◌, ℕ, ◌-◌, Bool, not, List, length}
use Rattle.vic_frame.specs.Slots.{slot_count}
use Rattle.vic_log.specs.declared.entry.Entry.{Entry}
use Rattle.vic_log.specs.declared.entry.Entry.TheVariants.{Sent, Silent, Collision, Heard, Listed, Garbled, FieldCycle, Captured, Unknown}
use Rattle.vic_log.specs.declared.entry.LogLine.{LogLine}
use Rattle.vic_log.specs.declared.entry.Version.{Version}
use Rattle.vic_log.specs.Log.{IsLog}
use Rattle.vic_log.specs.Order.{entries, listed, is_empty}
use Rattle.vic_log.specs.Rounds.{slots_left}

-- how many slots of the round are left after an entry, given how many are left before it
abbrev pub left_after : ℕ → Entry → ℕ
left_after left (Sent q) = slot_count q
left_after left (Listed u) = 0
left_after left FieldCycle = 0
left_after left Silent = left - 1
left_after left Collision = left - 1
left_after left (Heard r) = left - 1
left_after left Garbled = left - 1
left_after left (Captured r) = left - 1
left_after left Unknown = left - 1

-- whether a UID is listed, and how many slots of the round are left
pub record Keeps (version : Version) (lines : List LogLine) (listing : Bool) (left : ℕ)
    : Type 0 where
  pub is_log : IsLog version lines
  pub listing_is : listing ≡ not (is_empty (listed (entries lines)))
  pub left_is : left ≡ slots_left (entries lines) (length lines)
