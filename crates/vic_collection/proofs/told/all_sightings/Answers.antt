use Rattle.vic_collection.proofs.Words.{◌≡◌, ◌∙◌, ap, sym, ◌++◌, ◌∷◌, [], Bool, false, cond, append-nil, has, refl, length, slice_get, slice_get_read, take, Some}
use Rattle.vic_report.specs.Findings.{uids_of}
use Rattle.vic_survey.specs.declared.survey.SurveyedField.TheVariants.{Possible}
use Rattle.vic_collection.specs.Collections.{is_certain_by, is_certain_in, positions_from}
use Rattle.vic_collection.specs.Collections.{logs_in}
use Rattle.vic_collection.proofs.Telling.{nothing_certain, positions_from-more}
use Rattle.vic_collection.proofs.told.all_sightings.Goals as goal
use Rattle.vic_collection.proofs.told.all_sightings.Goals.{in-Possible+in_ok-push_all, in_default}

pub loop-index-preserved : goal.loop-index-preserved
loop-index-preserved c = λ u.
    let i = c.loop-index.index in
    let s = c.index-surveys-index.result in
    let at : slice_get c.args.surveys.now i ≡ Some s = slice_get_read c.args.surveys.now (length c.args.surveys.now) i s refl c.loop-index-test.true c.index-surveys-index.is in
    let more = positions_from-more (λ t. is_certain_in t u) c.args.surveys.now i s at in
    let before = positions_from (λ t. is_certain_in t u) 0 (take i c.args.surveys.now) in
    elim c.match-field.branch [
      | in-Possible+in_ok-push_all w ↦
          let field : s.field ≡ Possible w.in-Possible.seen = sym c.field.ensures.value ∙ w.in-Possible.is in
          let tells : has (uids_of w.as_slice.result.now) u ≡ is_certain_in s u = ap (λ l. has (uids_of l) u) w.as_slice.ensures.value ∙ ap (λ f. is_certain_by f u) (sym field) in
          ap (λ m. logs_in m.items u) w.sightings-is ∙ (w.in_ok-push_all.ensures u ∙ (ap (λ l. l ++ cond (has (uids_of w.as_slice.result.now) u) (i ∷ []) []) (c.loop-index.invariant u) ∙ (ap (λ (b : Bool). before ++ cond b (i ∷ []) []) tells ∙ sym more)))
      | in_default w ↦
          let none : is_certain_in s u ≡ false = ap (λ f. is_certain_by f u) (sym c.field.ensures.value) ∙ nothing_certain c.field.result.now u w.in_default.not-Possible in
          ap (λ m. logs_in m.items u) w.sightings-is ∙ (c.loop-index.invariant u ∙ (sym (append-nil before) ∙ (ap (λ (b : Bool). before ++ cond b (i ∷ []) []) (sym none) ∙ sym more)))
    ]
