use Rattle.vic_collection.proofs.Words.{◌≡◌, map, take}
use Rattle.std.specs.Option.{option_map}
use Rattle.vic_collection.specs.Joins.{place_of_log}
use Rattle.vic_collection.proofs.joins.places_of_logs.Given as goal

abbrev pub invariant-loop-survey : goal.invariant-loop-survey
invariant-loop-survey l = map (option_map (λ place. place.items)) l.places.items
    ≡ map (place_of_log (record { catalogue = l.catalogue; rows = l.rows; surveys = l.surveys })) (take l.survey-index l.surveys)
