use Rattle.vic_collection.proofs.AnyOrder.{agree_in_any_order, state_in_any_order}
use Rattle.vic_collection.proofs.Families.{certain_in_any_order, possible_in_any_order}
use Rattle.vic_collection.proofs.laws.any_order.Goals as goal

pub returns : goal.returns
returns c = record {
  possible = possible_in_any_order;
  certain = certain_in_any_order;
  states = state_in_any_order;
  findings = agree_in_any_order;
}
