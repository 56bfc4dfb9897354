use Rattle.vic_result.proofs.Words.{◌≡◌, ◌∙◌, ◌<◌, ap, refl, sym, subst, ◌++◌, codes, length, slice_get, slice_get_read, Some, then_piece, List}
use Rattle.std.specs.Option.{option_map}
use Rattle.vic_collection.specs.Joins.{is_left_over, place_of_log}
use Rattle.vic_survey.specs.Surveys.{SurveyValue}
use Rattle.vic_result.specs.ResultObject.{field_json, field_line, log_json}
use Rattle.vic_result.proofs.Elements.{some_and, some_at}
use Rattle.vic_result.proofs.LogParts.{same_head}
use Rattle.vic_result.proofs.object.logs.push_log.Goals as goal

pub returns : goal.returns
returns c =
    let t = c.args.text.now.items in
    let C = c.args.collection.now in
    let s = c.index-surveys-index.result in
    let within : c.args.index < length c.surveys.result.now = subst (λ (ss : List SurveyValue). c.args.index < length ss) (sym c.surveys.ensures) c.requires in
    let at : slice_get C.surveys c.args.index ≡ Some s = subst (λ (ss : List SurveyValue). slice_get ss c.args.index ≡ Some s) c.surveys.ensures (slice_get_read c.surveys.result.now (length c.surveys.result.now) c.args.index s refl within c.index-surveys-index.is) in
    let name = c.as_bytes-name.ensures.value ∙ (c.as_str.ensures.value ∙ c.name.ensures.value) in
    let place = some_at (slice_get C.surveys c.args.index) (λ x. option_map (λ p. p.now) c.place_of_log-place.result ≡ place_of_log C x) s at c.place_of_log-place.ensures in
    let left = some_at (slice_get C.surveys c.args.index) (λ x. c.is_left_over-left_over.result ≡ is_left_over C x) s at c.is_left_over-left_over.ensures in
    let line = c.as_slice.ensures.value ∙ (c.in_ok-line.ensures ∙ ap field_line c.field.ensures.value) in
    let head = c.in_ok-push_log_head.ensures ∙ ap (λ h. t ++ h) (same_head name place left line) in
    let field = c.in_ok-push_field.ensures ∙ ap (λ f. c.push_log_head.new.text.items ++ field_json C c.args.masks.now f) c.field-2.ensures.value in
    some_and (slice_get C.surveys c.args.index) (λ x. c.extend_from_slice.new.self.items ≡ t ++ log_json C c.args.masks.now x) s at
    (then_piece t _ (codes "}") (then_piece t _ (field_json C c.args.masks.now s.field) head field) c.in_ok-extend_from_slice.ensures.items)
