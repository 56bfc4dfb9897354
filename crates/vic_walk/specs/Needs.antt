-- How many tags, at least, the slot lines of a log require without naming them.
use Rattle.std.specs.Prelude.{ℕ, Option, Some, None, List, slice_get}
use Rattle.vic_log.specs.declared.entry.Entry.{Entry}
use Rattle.vic_log.specs.declared.entry.Entry.TheVariants.{Sent, Silent, Collision, Heard, Listed, Garbled, FieldCycle, Captured, Unknown}

-- how many tags, at least, answered in a slot without being named by its line
abbrev pub needs : Entry → ℕ
needs Collision = 2
needs Garbled = 1
needs Silent = 0
needs (Heard r) = 0
needs (Captured r) = 0
needs Unknown = 0
needs (Sent q) = 0
needs (Listed u) = 0
needs FieldCycle = 0

-- the same, 0 where there is no entry
abbrev pub needs_of : Option Entry → ℕ
needs_of (Some e) = needs e
needs_of None = 0

-- how many the line at position i requires
abbrev pub needs_at : List Entry → ℕ → ℕ
needs_at es i = needs_of (slice_get es i)
