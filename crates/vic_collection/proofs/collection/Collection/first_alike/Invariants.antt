use Rattle.vic_collection.proofs.Words.{◌≡◌, ℕ, ◌<◌, List, [], take}
use Rattle.vic_collection.specs.Alike.{IsAlike, knows_one}
use Rattle.vic_collection.specs.Joins.{place_by_name}
use Rattle.vic_collection.specs.inner.NameSets.{has_name, lead}
use Rattle.vic_collection.proofs.collection.Collection.first_alike.Given as goal

abbrev pub invariant-loop-index : goal.invariant-loop-index
invariant-loop-index l = record {
  leads : (q : List ℕ) → lead l.leads q ≡ place_by_name (record { catalogue = l.self.catalogue; rows = l.self.rows; surveys = [] }) q;
  known : (q : List ℕ) → has_name l.names q ≡ knows_one l.self (take l.index l.self.surveys) q;
  none : (k : ℕ) → k < l.index → IsAlike l.self k → ⊥;
}
