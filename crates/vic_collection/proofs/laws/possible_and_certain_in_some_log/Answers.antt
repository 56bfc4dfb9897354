use Rattle.vic_collection.proofs.Families.{certain_in_some, possible_in_some}
use Rattle.vic_collection.proofs.laws.possible_and_certain_in_some_log.Goals as goal

pub returns : goal.returns
returns c = record { possible = possible_in_some; certain = certain_in_some }
