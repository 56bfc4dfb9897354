use Rattle.vic_result.proofs.Words.{◌≡◌, ◌++◌, drop, flat_map, map}
use Rattle.vic_result.specs.ResultTable.{item_row}
use Rattle.vic_result.proofs.table.push_item_rows.Given as goal

abbrev pub invariant-loop-index : goal.invariant-loop-index
invariant-loop-index l = l.text.items ++ flat_map (λ line. line ++ l.collection.catalogue.head_end) (map (item_row l.collection) (drop l.index l.collection.catalogue.items)) ≡ l.fn.text.items ++ flat_map (λ line. line ++ l.collection.catalogue.head_end) (map (item_row l.collection) l.collection.catalogue.items)
