use Rattle.vic_result.proofs.Words.{◌≡◌, ◌∙◌, ap, sym}
use Rattle.vic_table.specs.Values.{ItemValue}
use Rattle.vic_collection.specs.Collections.{certain_logs, undecided_logs}
use Rattle.vic_result.specs.ResultTable.{logs_by}
use Rattle.vic_result.proofs.Elements.{item_at, some_and, some_at}
use Rattle.vic_result.proofs.ItemCells.{item_named}
use Rattle.vic_result.proofs.uid_logs.logs_of_item.Goals as goal

pub logs_of_uid-requires-clause-named : goal.logs_of_uid-requires-clause-named
logs_of_uid-requires-clause-named c =
    let C = c.args.collection.now in
    let found = item_at C.catalogue.items c.args.index c.requires.bound in
    let uid = some_at _ (λ (item : ItemValue). c.uid.result ≡ item.uid) found.0 found.1 (rw c.catalogue.ensures at c.uid.ensures) in
    item_named C c.args.index found.0 c.in-Some.uid found.1 (sym uid ∙ c.in-Some.is)

pub returns-in-Some-clause-certain : goal.returns-in-Some-clause-certain
returns-in-Some-clause-certain c =
    let C = c.args.collection.now in
    let found = item_at C.catalogue.items c.args.index c.requires.bound in
    let uid = some_at _ (λ (item : ItemValue). c.uid.result ≡ item.uid) found.0 found.1 (rw c.catalogue.ensures at c.uid.ensures) in
    some_and _ (λ (item : ItemValue). c.logs_of_uid.result.certain.now ≡ logs_by (certain_logs C) item.uid) found.0 found.1
    (c.logs_of_uid.ensures.certain ∙ ap (logs_by (certain_logs C)) (sym c.in-Some.is ∙ uid))

pub returns-in-Some-clause-undecided : goal.returns-in-Some-clause-undecided
returns-in-Some-clause-undecided c =
    let C = c.args.collection.now in
    let found = item_at C.catalogue.items c.args.index c.requires.bound in
    let uid = some_at _ (λ (item : ItemValue). c.uid.result ≡ item.uid) found.0 found.1 (rw c.catalogue.ensures at c.uid.ensures) in
    some_and _ (λ (item : ItemValue). c.logs_of_uid.result.undecided.now ≡ logs_by (undecided_logs C) item.uid) found.0 found.1
    (c.logs_of_uid.ensures.undecided ∙ ap (logs_by (undecided_logs C)) (sym c.in-Some.is ∙ uid))
