use Rattle.vic_collection.proofs.Listing.{found_in}
use Rattle.vic_collection.proofs.collection.Collection.items_in.Goals as goal

pub returns : goal.returns
returns c = found_in _ _ _ _ c.in_ok-all_in.ensures c.by_uids.ensures.rising c.by_uids.ensures.members c.by_uids.ensures.items
