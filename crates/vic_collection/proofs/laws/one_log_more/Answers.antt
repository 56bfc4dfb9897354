use Rattle.vic_collection.proofs.Families.{certain_with_more, possible_with_more}
use Rattle.vic_collection.proofs.laws.one_log_more.Goals as goal

pub returns : goal.returns
returns c = record { possible = possible_with_more; certain = certain_with_more }
