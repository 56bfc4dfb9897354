-- The certain UIDs of a log, by their keys.
use Rattle.std.specs.Prelude.{ℕ, Option, Some, None, List}
use Rattle.vic_log.specs.Order.{entries}
use Rattle.vic_log.specs.declared.entry.LogLine.{LogLine}
use Rattle.vic_tree.specs.Keys.{AreKeysOf}
use Rattle.vic_verdict.specs.Possible.{IsCertainUid, IsPossible}
use Rattle.vic_verdict.specs.Rising.{IsListOf}

-- the keys of the UIDs that are certain in the lines; none if these are impossible
abbrev pub AreCertainKeys : List LogLine → Option (List ℕ) → Type 0
AreCertainKeys lines None = IsPossible (entries lines) → ⊥
AreCertainKeys lines (Some keys) =
    (us : List ℕ) × IsListOf (IsCertainUid (entries lines)) us × AreKeysOf keys us
