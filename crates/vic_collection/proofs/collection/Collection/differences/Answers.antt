use Rattle.std.proofs.lemmas.Result.{IfOk-weaker}
use Rattle.vic_tree.specs.Ranges.{is_open_in}
use Rattle.vic_collection.proofs.Unsettled.{first_unsettled}
use Rattle.vic_collection.proofs.collection.Collection.differences.Goals as goal

pub returns-clause-unsettled : goal.returns-clause-unsettled
returns-clause-unsettled c = IfOk-weaker c.compare.result _ _ (λ d is. first_unsettled c.args.self.now (is_open_in c.in_ok-possible_set.field-0) c.in_ok-certain.certain c.in_ok-listed.listed c.in_ok-certain.ensures c.in_ok-listed.ensures c.in_ok-possible_set.ensures d.unsettled is.unsettled) c.compare.ensures
