use Rattle.vic_collection.proofs.Complete.{complete}
use Rattle.vic_collection.proofs.laws.complete_is_true.Goals as goal

pub returns : goal.returns
returns c = complete
