-- The logs of the UID of an item.
use Rattle.std.specs.Prelude.{◌≡◌, ℕ, true, List}
use Rattle.vic_frame.specs.Uids.{IsUid}
use Rattle.vic_collection.specs.declared.logs_by_uid.LogOfUid.{LogOfUid}
use Rattle.vic_collection.specs.Collections.{CollectionValue, is_named, logs_in, undecided_logs}

-- rows have the logs in which UIDs are possible and not certain, for each that is of an item or
-- certain
abbrev pub AreUndecidedLogs : CollectionValue → List LogOfUid → Type 0
AreUndecidedLogs c rows = (u : ℕ) → IsUid u → is_named c u ≡ true
    → logs_in rows u ≡ undecided_logs c u
