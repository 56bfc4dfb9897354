use Rattle.vic_collection.proofs.Words.{◌≡◌, is_some, map, take}
use Rattle.std.specs.Option.{option_map}
use Rattle.vic_collection.specs.inner.Placed.{is_without_log_among}
use Rattle.vic_collection.proofs.items_without_log.items_without_log.Given as goal

abbrev pub invariant-loop-index : goal.invariant-loop-index
invariant-loop-index l = l.without_log.items ≡ map (λ item. is_without_log_among (is_some l.catalogue.columns.place) (map (option_map (λ p. p.items)) l.places) item.place) (take l.index l.catalogue.items)
