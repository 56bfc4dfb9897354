use Rattle.vic_collection.proofs.Words.{◌≤◌}
use Rattle.std.specs.List.{AllWithin}
use Rattle.vic_collection.specs.declared.logs_by_uid.LogOfUid.{LogOfUid}
use Rattle.vic_collection.proofs.logs_by_uid.end_of.Given as goal

abbrev pub invariant-loop-index : goal.invariant-loop-index
invariant-loop-index l = AllWithin (λ (s : LogOfUid). s.uid ≤ l.fn.uid) l.rows 0 l.index
