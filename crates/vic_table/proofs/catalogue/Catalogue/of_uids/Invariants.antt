use Rattle.vic_table.proofs.Words.{◌≡◌, map, take}
use Rattle.vic_table.specs.inner.Kept.{listed_at}
use Rattle.vic_table.proofs.catalogue.Catalogue.of_uids.Given as goal

abbrev pub invariant-loop-uid : goal.invariant-loop-uid
invariant-loop-uid l = l.items ≡ map listed_at (take l.uid-index l.uids)
