use Rattle.vic_table.proofs.Order.{no_fault}
use Rattle.vic_table.proofs.Reordering.{items_same, places_same}
use Rattle.vic_table.proofs.laws.order_is_free.Goals as goal

pub returns : goal.returns
returns c = record { no_fault = no_fault; items = items_same; places = places_same }
