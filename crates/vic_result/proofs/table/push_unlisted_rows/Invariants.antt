use Rattle.vic_result.proofs.Words.{◌≡◌, ◌++◌, drop, flat_map, map}
use Rattle.vic_result.specs.ResultTable.{unlisted_row}
use Rattle.vic_result.proofs.table.push_unlisted_rows.Given as goal

abbrev pub invariant-loop-one : goal.invariant-loop-one
invariant-loop-one l = l.text.items ++ flat_map (λ line. line ++ l.collection.catalogue.head_end) (map (unlisted_row l.collection) (map (λ x. x.uid) (drop l.one-index l.unlisted))) ≡ l.fn.text.items ++ flat_map (λ line. line ++ l.collection.catalogue.head_end) (map (unlisted_row l.collection) (map (λ x. x.uid) l.unlisted))
