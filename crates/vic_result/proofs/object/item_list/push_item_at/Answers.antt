use Rattle.vic_result.proofs.Words.{◌≡◌, ◌∙◌, ◌++◌, ap, IsSomeAnd, refl, slice_get, subst}
use Rattle.vic_table.specs.Columns.{separator_byte}
use Rattle.vic_table.specs.Values.{CatalogueValue, ItemValue}
use Rattle.vic_collection.specs.Collections.{certain_logs, undecided_logs}
use Rattle.vic_result.specs.ResultObject.{item_json, item_of_json}
use Rattle.vic_result.specs.ResultTable.{logs_by}
use Rattle.vic_result.specs.StateNames.{state_name}
use Rattle.vic_result.proofs.Elements.{item_at, some_and, some_at}
use Rattle.vic_result.proofs.ItemCells.{state_there}
use Rattle.vic_result.proofs.object.item_list.push_item_at.Goals as goal

pub returns : goal.returns
returns c =
    let C = c.args.collection.now in
    let t = c.args.text.now.items in
    let logs = c.logs_of_item-logs.result in
    let separator = separator_byte C.catalogue.columns.separator in
    let found = item_at C.catalogue.items c.args.index c.requires.bound in
    let item = found.0 in
    let state = state_there C c.args.states.now c.args.index item c.state_at-state.result c.requires.states found.1 c.state_at-state.ensures in
    let certain = some_at _ (λ (x : ItemValue). logs.certain.now ≡ logs_by (certain_logs C) x.uid) item found.1 c.logs_of_item-logs.ensures.certain in
    let undecided = some_at _ (λ (x : ItemValue). logs.undecided.now ≡ logs_by (undecided_logs C) x.uid) item found.1 c.logs_of_item-logs.ensures.undecided in
    let Pushed = λ (k : CatalogueValue). IsSomeAnd (slice_get k.items c.args.index) (λ (x : ItemValue). c.push_item.new.text.items ≡ t ++ item_json (separator_byte k.columns.separator) x (state_name c.state_at-state.result) logs.certain.now logs.undecided.now) in
    let by_value : Pushed C.catalogue = subst Pushed c.catalogue.ensures c.in_ok-push_item.ensures in
    let pushed = some_at (slice_get C.catalogue.items c.args.index) (λ (x : ItemValue). c.push_item.new.text.items ≡ t ++ item_json separator x (state_name c.state_at-state.result) logs.certain.now logs.undecided.now) item found.1 by_value in
    let same : item_json separator item (state_name c.state_at-state.result) logs.certain.now logs.undecided.now ≡ item_of_json C item = rw (state, certain, undecided) refl in
    some_and _ (λ (x : ItemValue). c.push_item.new.text.items ≡ t ++ item_of_json C x) item found.1 (pushed ∙ ap (λ s. t ++ s) same)
