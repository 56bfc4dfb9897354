use Rattle.vic_result.proofs.Words.{◌≡◌, ◌∙◌, ◌++◌, ◌∷◌, [], ap, IsSomeAnd, List, slice_get, subst}
use Rattle.vic_survey.specs.Surveys.{SurveyValue}
use Rattle.vic_table.specs.Columns.{separator_byte}
use Rattle.vic_table.specs.Values.{CatalogueValue, ItemValue}
use Rattle.vic_collection.specs.Collections.{certain_logs, undecided_logs}
use Rattle.vic_collection.specs.States.{state_of}
use Rattle.vic_result.specs.ResultCells.{cells_text, names_text}
use Rattle.vic_result.specs.ResultTable.{cells_by, item_row, logs_by}
use Rattle.vic_result.specs.StateNames.{state_name}
use Rattle.vic_result.specs.NamesAt.{names_at}
use Rattle.vic_result.proofs.Elements.{item_at, some_and, some_at}
use Rattle.vic_result.proofs.ItemCells.{cells_by-at, state_there}
use Rattle.vic_result.proofs.table.push_row_at.Goals as goal

pub returns : goal.returns
returns c =
    let C = c.args.collection.now in
    let t = c.args.text.now.items in
    let logs = c.logs_of_item-logs.result in
    let separator = separator_byte C.catalogue.columns.separator in
    let found = item_at C.catalogue.items c.args.index c.requires.bound in
    let item = found.0 in
    let state = state_there C c.args.states.now c.args.index item c.state_at-state.result c.requires.states found.1 c.state_at-state.ensures in
    let certain = some_at _ (λ (x : ItemValue). logs.certain.now ≡ logs_by (certain_logs C) x.uid) item found.1 c.logs_of_item-logs.ensures.certain in
    let undecided = some_at _ (λ (x : ItemValue). logs.undecided.now ≡ logs_by (undecided_logs C) x.uid) item found.1 c.logs_of_item-logs.ensures.undecided in
    let Pushed = λ (k : CatalogueValue) (surveys : List SurveyValue). IsSomeAnd (slice_get k.items c.args.index) (λ (x : ItemValue). c.push_item_row.new.text.items ≡ t ++ (x.row ++ cells_text (separator_byte k.columns.separator) (state_name c.state_at-state.result ∷ names_text (names_at surveys logs.certain.now) ∷ names_text (names_at surveys logs.undecided.now) ∷ []) ++ k.head_end)) in
    let by_value : Pushed C.catalogue C.surveys = subst (Pushed C.catalogue) c.surveys-surveys.ensures (subst (λ (k : CatalogueValue). Pushed k c.surveys-surveys.result.now) c.catalogue-catalogue.ensures c.in_ok-push_item_row.ensures) in
    let pushed = some_at (slice_get C.catalogue.items c.args.index) (λ (x : ItemValue). c.push_item_row.new.text.items ≡ t ++ (x.row ++ cells_text separator (state_name c.state_at-state.result ∷ names_text (names_at C.surveys logs.certain.now) ∷ names_text (names_at C.surveys logs.undecided.now) ∷ []) ++ C.catalogue.head_end)) item found.1 by_value in
    let cells : (state_name c.state_at-state.result ∷ names_text (names_at C.surveys logs.certain.now) ∷ names_text (names_at C.surveys logs.undecided.now) ∷ []) ≡ cells_by C (state_name (state_of C item)) item.uid = rw (state, certain, undecided) (cells_by-at C (state_name (state_of C item)) item.uid) in
    some_and _ (λ (x : ItemValue). c.push_item_row.new.text.items ≡ t ++ (item_row C x ++ C.catalogue.head_end)) item found.1
    (pushed ∙ ap (λ cs. t ++ (item.row ++ cells_text separator cs ++ C.catalogue.head_end)) cells)
