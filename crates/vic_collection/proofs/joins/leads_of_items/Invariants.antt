use Rattle.vic_collection.proofs.Words.{◌≡◌, ℕ, List, take}
use Rattle.vic_collection.specs.Joins.{place_of_items}
use Rattle.vic_collection.specs.inner.NameSets.{lead}
use Rattle.vic_collection.proofs.joins.leads_of_items.Given as goal

abbrev pub invariant-loop-index : goal.invariant-loop-index
invariant-loop-index l = (name : List ℕ) → lead l.leads name ≡ place_of_items (take l.index l.catalogue.items) name
