use Rattle.vic_collection.proofs.Words.{◌≡◌, ◌||◌, ℕ, has, take, list_any}
use Rattle.vic_collection.specs.Collections.{is_number}
use Rattle.vic_collection.proofs.collection.Collection.push_items.Given as goal

abbrev pub invariant-loop-index : goal.invariant-loop-index
invariant-loop-index l = (u : ℕ) → has l.uids.items u ≡ (has l.fn.uids.items u || list_any (λ item. is_number u item.uid) (take l.index l.self.catalogue.items))
