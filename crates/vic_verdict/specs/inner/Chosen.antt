-- A population gathered from what the slots of a log require.
use Rattle.std.specs.Prelude.{ℕ, ◌==◌, Bool, true, not, Option, Some, None, List, ◌++◌, flat_map, take}
use Rattle.std.specs.List.{filter}
use Rattle.vic_verdict.specs.declared.facts.Met.{Met}
use Rattle.vic_walk.specs.declared.answers.Answering.{Answering}

-- the UID isn't the one to avoid
abbrev pub is_other : Option ℕ → ℕ → Bool
is_other None u = true
is_other (Some avoided) u = not (avoided == u)

-- as many as are needed, other than the one to avoid
abbrev pub chosen : Option ℕ → Answering → List ℕ
chosen avoid a = take a.need (filter (is_other avoid) a.uids.items)

-- the UIDs heard, and those chosen of each slot
abbrev pub chosen_population : Option ℕ → Met → List ℕ
chosen_population avoid m = m.heard.items ++ flat_map (chosen avoid) m.unread.items
