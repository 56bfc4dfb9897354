use Rattle.vic_result.proofs.Words.{◌≡◌, ◌<◌, length, List, refl, slice_get, slice_get_read, subst, sym}
use Rattle.std.proofs.lemmas.Slice.Zip.{AllZip-long}
use Rattle.vic_survey.specs.Surveys.{SurveyValue}
use Rattle.vic_collection.specs.Findings.{AreOpenMasksOfSurvey}
use Rattle.vic_result.specs.inner.Logs.{AddsLog}
use Rattle.vic_result.proofs.Commas.{log_next}
use Rattle.vic_result.proofs.Elements.{item_at, some_and, some_at, zip_at}
use Rattle.vic_result.proofs.object.log_list.push_log_list.Goals as goal

pub bounds-masks-index : goal.bounds-masks-index
bounds-masks-index c =
    let C = c.args.collection.now in
    let i = c.loop-index.index in
    let masks = c.args.masks.now in
    let lt : i < length C.surveys = subst (λ (ss : List SurveyValue). i < length ss) c.surveys-index-end.ensures c.loop-index-test.true in
    let long : length masks ≡ length C.surveys = AllZip-long (AreOpenMasksOfSurvey C) C.surveys masks c.requires in
    subst (λ n. i < n) (sym long) lt

pub push_log_at-requires-clause-masks : goal.push_log_at-requires-clause-masks
push_log_at-requires-clause-masks c =
    let C = c.args.collection.now in
    let i = c.loop-index.index in
    let masks = c.args.masks.now in
    let o = c.index-masks-index.result in
    let found = item_at C.surveys i (subst (λ (ss : List SurveyValue). i < length ss) c.surveys-index-end.ensures c.loop-index-test.true) in
    let long : length masks ≡ length C.surveys = AllZip-long (AreOpenMasksOfSurvey C) C.surveys masks c.requires in
    let within : i < length masks = subst (λ n. i < n) (sym long) (subst (λ (ss : List SurveyValue). i < length ss) c.surveys-index-end.ensures c.loop-index-test.true) in
    let there = slice_get_read masks (length masks) i o refl within c.index-masks-index.is in
    some_and (slice_get C.surveys i) (λ s. AreOpenMasksOfSurvey C s o) found.0 found.1 (zip_at (AreOpenMasksOfSurvey C) C.surveys masks i found.0 o c.requires found.1 there)

pub loop-index-preserved : goal.loop-index-preserved
loop-index-preserved c =
    let C = c.args.collection.now in
    let i = c.loop-index.index in
    let found = item_at C.surveys i (subst (λ (ss : List SurveyValue). i < length ss) c.surveys-index-end.ensures c.loop-index-test.true) in
    let added = some_at (slice_get C.surveys i) (AddsLog C c.push_comma.new.text.items c.push_log_at.new.text.items) found.0 found.1 c.in_ok-push_log_at.ensures in
    log_next C c.args.text.now.items i found.0 found.1 c.loop-index.invariant c.in_ok-push_comma.ensures added
