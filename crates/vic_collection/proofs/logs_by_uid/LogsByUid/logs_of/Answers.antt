use Rattle.vic_collection.proofs.Words.{ap, drop, map, take, ◌-◌, ◌∙◌}
use Rattle.std.proofs.lemmas.List.{drop-map, take-map}
use Rattle.vic_collection.specs.Collections.{logs_in}
use Rattle.vic_collection.specs.declared.logs_by_uid.LogOfUid.{LogOfUid}
use Rattle.vic_collection.proofs.logs_by_uid.LogsByUid.logs_of.Goals as goal

pub returns-clause-logs : goal.returns-clause-logs
returns-clause-logs c =
    let log = λ (s : LogOfUid). s.log in
    let all = c.self.inside.rows.items in
    let from = c.bounds-from.result.0 in
    let count = c.bounds-from.result.1 - from in
    let logs = c.deref-2.ensures.value ∙ c.self.invariant.1 in
    let cut = ap (λ l. take count (drop from l)) logs ∙ (ap (take count) (drop-map log from all) ∙ take-map log count (drop from all)) in
    let found = rw c.deref.ensures.value at c.bounds-from.ensures.found in
    cut ∙ (ap (map log) found ∙ ap (λ v. logs_in v c.args.uid) c.self.view_is)
