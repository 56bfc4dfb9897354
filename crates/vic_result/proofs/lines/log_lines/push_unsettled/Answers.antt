use Rattle.vic_result.proofs.Words.{◌≡◌, ◌∙◌, ◌++◌, ap, ap₂, arith, codes, length, on_ok_weaker, refl, subst, sym, then_piece, List}
use Rattle.std.proofs.lemmas.Slice.Zip.{AllZip-long}
use Rattle.vic_text.specs.Digits.{mask_text}
use Rattle.vic_tree.specs.declared.open_masks.OpenMasks.{OpenMasks}
use Rattle.vic_survey.specs.Surveys.{SurveyValue}
use Rattle.vic_collection.specs.Findings.{AreOpenMasksOfSurvey}
use Rattle.vic_result.specs.ResultLines.{all_open_lines, unsettled_lines}
use Rattle.vic_result.specs.inner.Lines.{AddsUnsettled}
use Rattle.vic_result.proofs.lines.log_lines.push_unsettled.Goals as goal

pub push_all_open_lines-requires : goal.push_all_open_lines-requires
push_all_open_lines-requires c =
    let C = c.args.collection.now in
    let masks = c.in_ok-masks.masks.items in
    let long : length masks ≡ length C.surveys = AllZip-long (AreOpenMasksOfSurvey C) C.surveys masks c.in_ok-masks.ensures in
    let surveys : length c.surveys.result.now ≡ length C.surveys = ap length c.surveys.ensures in
    let all : length c.deref.result.now ≡ length masks = ap length c.deref.ensures.value in
    omega (arith, long, surveys, all)

pub returns : goal.returns
returns c =
    let C = c.args.collection.now in
    let t = c.args.text.now.items in
    let m = c.in-Some.mask in
    let masks = c.in_ok-masks.masks.items in
    let line = then_piece t (codes "unsettled " ++ mask_text m) (codes "\n") c.in_ok-push_words_mask.ensures c.in_ok-extend_from_slice.ensures.items in
    on_ok_weaker c.push_all_open_lines.result
    (λ e. subst (λ o. AddsUnsettled C o t c.push_all_open_lines.new.text.items) (sym c.in-Some.is) (
      unsettled_lines C m masks,
      (masks, c.in_ok-masks.ensures, refl),
      then_piece t _ (all_open_lines C.surveys masks) line (e ∙ ap₂ (λ (ss : List SurveyValue) (os : List OpenMasks). c.extend_from_slice.new.self.items ++ all_open_lines ss os) c.surveys.ensures c.deref.ensures.value),
    ))
    c.push_all_open_lines.ensures
