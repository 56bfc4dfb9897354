use Rattle.vic_result.proofs.Words.{◌≡◌, ◌∙◌, ◌++◌, ◌∷◌, [], ap, codes, List, subst}
use Rattle.vic_survey.specs.Surveys.{SurveyValue}
use Rattle.vic_table.specs.Columns.{separator_byte}
use Rattle.vic_table.specs.Values.{CatalogueValue}
use Rattle.vic_result.specs.ResultCells.{cells_text, names_text}
use Rattle.vic_result.specs.ResultTable.{row_of_uid, uid_cells}
use Rattle.vic_result.specs.NamesAt.{names_at}
use Rattle.vic_result.proofs.ItemCells.{uid_cells-at, unlisted_named}
use Rattle.vic_result.proofs.table.push_row_of_unlisted.Goals as goal

pub logs_of_uid-logs-requires-clause-named : goal.logs_of_uid-logs-requires-clause-named
logs_of_uid-logs-requires-clause-named c = unlisted_named c.args.collection.now c.args.uid c.requires.unlisted

pub returns : goal.returns
returns c =
    let C = c.args.collection.now in
    let t = c.args.text.now.items in
    let u = c.args.uid in
    let logs = c.logs_of_uid-logs.result in
    let Pushed = λ (k : CatalogueValue) (surveys : List SurveyValue). c.push_unlisted_row.new.text.items ≡ t ++ (row_of_uid k.columns u ++ cells_text (separator_byte k.columns.separator) (codes "unexpected" ∷ names_text (names_at surveys logs.certain.now) ∷ names_text (names_at surveys logs.undecided.now) ∷ []) ++ k.head_end) in
    let by_value : Pushed C.catalogue C.surveys = subst (Pushed C.catalogue) c.surveys-surveys.ensures (subst (λ (k : CatalogueValue). Pushed k c.surveys-surveys.result.now) c.catalogue-catalogue.ensures c.in_ok-push_unlisted_row.ensures) in
    let cells : (codes "unexpected" ∷ names_text (names_at C.surveys logs.certain.now) ∷ names_text (names_at C.surveys logs.undecided.now) ∷ []) ≡ uid_cells C (codes "unexpected") u = rw (c.logs_of_uid-logs.ensures.certain, c.logs_of_uid-logs.ensures.undecided) (uid_cells-at C (codes "unexpected") u) in
    by_value ∙ ap (λ cs. t ++ (row_of_uid C.catalogue.columns u ++ cells_text (separator_byte C.catalogue.columns.separator) cs ++ C.catalogue.head_end)) cells
