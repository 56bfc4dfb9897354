use Rattle.vic_result.proofs.Words.{◌≡◌, ◌++◌, refl, slice_get}
use Rattle.vic_survey.specs.Surveys.{SurveyValue}
use Rattle.vic_collection.specs.Findings.{AreOpenMasksOfSurvey}
use Rattle.vic_result.specs.ResultObject.{log_json}
use Rattle.vic_result.specs.inner.Logs.{AddsLog}
use Rattle.vic_result.proofs.Elements.{item_at, some_and, some_at}
use Rattle.vic_result.proofs.object.log_list.push_log_at.Goals as goal

pub returns : goal.returns
returns c =
    let C = c.args.collection.now in
    let found = item_at C.surveys c.args.index c.requires.bound in
    let masks = c.args.masks.now in
    let left = some_at (slice_get C.surveys c.args.index) (λ (s : SurveyValue). AreOpenMasksOfSurvey C s masks) found.0 found.1 c.requires.masks in
    let pushed = some_at (slice_get C.surveys c.args.index) (λ (s : SurveyValue). c.push_log.new.text.items ≡ c.args.text.now.items ++ log_json C masks s) found.0 found.1 c.in_ok-push_log.ensures in
    some_and (slice_get C.surveys c.args.index) (AddsLog C c.args.text.now.items c.push_log.new.text.items) found.0 found.1 (log_json C masks found.0, (masks, left, refl), pushed)
