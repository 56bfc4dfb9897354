-- Places that are added to those without a log.
use Rattle.std.specs.Prelude.{◌≡◌, ℕ, ◌||◌, not, List, ◌++◌}
use Rattle.std.specs.Borrow.{Bor}
use Rattle.std.specs.BTreeSet.{BTreeSet}
use Rattle.std.specs.List.{filter}
use Rattle.vic_collection.specs.Alike.{is_among}
use Rattle.vic_collection.specs.Joins.{each_once}
use Rattle.vic_collection.specs.inner.NameSets.{has_name}

-- texts were added to a set of those that are known, and to a list those of them that weren't known
pub record AreAdded (old new : BTreeSet (Bor (List ℕ))) (before after texts : List (List ℕ))
    : Type 0 where
  pub known : (q : List ℕ) → has_name new q ≡ (has_name old q || is_among texts q)
  pub added : after ≡ before ++ filter (λ q. not (has_name old q)) (each_once texts)
