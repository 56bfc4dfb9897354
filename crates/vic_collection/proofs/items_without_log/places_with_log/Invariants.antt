use Rattle.vic_collection.proofs.Words.{◌≡◌, ℕ, List, list_any, map, take}
use Rattle.std.specs.Option.{option_map}
use Rattle.vic_collection.specs.Joins.{is_text}
use Rattle.vic_collection.specs.inner.NameSets.{has_name}
use Rattle.vic_collection.proofs.items_without_log.places_with_log.Given as goal

abbrev pub invariant-loop-place : goal.invariant-loop-place
invariant-loop-place l = (q : List ℕ) → has_name l.set q ≡ list_any (is_text q) (map (option_map (λ p. p.items)) (take l.place-index l.places))
