use Rattle.vic_collection.proofs.Words.{◌≡◌, ◌∙◌, ap, sym, Some, slice_get, slice_get_read, refl, length, take, has}
use Rattle.vic_tree.specs.OpenSet.{without_keys}
use Rattle.vic_tree.specs.Ranges.{is_open_in}
use Rattle.vic_survey.specs.Surveys.{SurveyValue}
use Rattle.vic_collection.specs.Findings.{AreOpenMasksOfSurvey}
use Rattle.vic_collection.proofs.Elements.{taken_more, zipped_more}
use Rattle.vic_collection.proofs.Unsettled.{left_by_one}
use Rattle.vic_collection.proofs.collection.Collection.open_masks.Goals as goal

pub loop-survey-preserved : goal.loop-survey-preserved
loop-survey-preserved c =
    let view = c.args.self.now in
    let surveys = c.surveys-surveys.result.now in
    let i = c.loop-survey.survey-index in
    let s : SurveyValue = c.survey-item.result in
    let at : slice_get surveys i ≡ Some s = slice_get_read surveys (length surveys) i s refl c.loop-survey-test.true c.survey-item.is in
    let there : slice_get view.surveys i ≡ Some s = ap (λ l. slice_get l i) (sym c.surveys-surveys.ensures) ∙ at in
    let set = is_open_in c.in_ok-set.set in
    let own : AreOpenMasksOfSurvey view s c.open_masks_between.result = record {
      set = without_keys set c.in_ok-keys.keys;
      uids = left_by_one view set c.in_ok-keys.keys c.as_slice.result.now (λ u. ap (λ us. has us u) c.as_slice.ensures.value ∙ c.in_ok-certain.ensures u) c.in_ok-keys.ensures i s there c.in_ok-set.ensures;
      first = c.open_masks_between.ensures.first;
      more = c.open_masks_between.ensures.more;
    } in
    rw (taken_more surveys i s at, c.in_ok-push.ensures.items) (zipped_more (AreOpenMasksOfSurvey view) (take i surveys) c.loop-survey.masks.items s c.open_masks_between.result c.loop-survey.invariant own)
