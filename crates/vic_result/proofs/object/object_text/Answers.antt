use Rattle.vic_result.proofs.Words.{◌≡◌, ◌∙◌, ◌++◌, ◌<◌, [], ap, ap₂, get_or, length, List, map, subst, sym, then_piece, true, ℕ}
use Rattle.vic_collection.specs.Collections.{is_unlisted}
use Rattle.vic_collection.specs.Joins.{places_without_log}
use Rattle.vic_collection.specs.declared.unlisted.UnlistedUid.{UnlistedUid}
use Rattle.vic_result.specs.Answered.{answer_line, answer_status}
use Rattle.vic_result.specs.ResultObject.{answer_json, catalogue_json, unlisted_list_json, items_json, lacking_json, logs_list_json, margin_member}
use Rattle.vic_result.proofs.ItemCells.{unlisted_at}
use Rattle.vic_result.proofs.object.object_text.Goals as goal

pub push_unlisted_member-requires-clause-unlisted : goal.push_unlisted_member-requires-clause-unlisted
push_unlisted_member-requires-clause-unlisted c =
    let C = c.args.collection.now in
    subst (λ (xs : List UnlistedUid). (k : ℕ) (d : UnlistedUid) → k < length xs → is_unlisted C (get_or xs k d).uid ≡ true) (sym c.as_slice-unlisted.ensures.value)
    (unlisted_at (λ u. is_unlisted C u ≡ true) c.in_ok-findings.findings.unlisted.items c.in_ok-findings.ensures.unlisted.uids)

pub returns-clause-text : goal.returns-clause-text
returns-clause-text c =
    let C = c.args.collection.now in
    let f = c.in_ok-findings.findings in
    let a = c.answer-answer.result in
    let unlisted = c.as_slice-unlisted.ensures.value in
    let line = c.as_slice.ensures.value ∙ (c.in_ok-push_answer_line.ensures ∙ ap (λ s. s ++ answer_line C a) c.new-line.ensures.items) in
    let answer : c.push_answer.new.text.items ≡ [] ++ answer_json (answer_status C a) (answer_line C a) = c.in_ok-push_answer.ensures ∙ (ap (λ s. s ++ answer_json c.answer_status-status.result c.as_slice.result.now) c.new-text.ensures.items ∙ ap₂ answer_json c.answer_status-status.ensures line) in
    let margin = then_piece [] _ (margin_member C a) answer c.in_ok-push_margin_member.ensures in
    let catalogue = then_piece [] _ (catalogue_json C (length f.unlisted.items)) margin (c.in_ok-push_catalogue.ensures ∙ ap (λ xs. c.push_margin_member.new.text.items ++ catalogue_json C (length xs)) unlisted) in
    let items = then_piece [] _ (items_json C) catalogue c.in_ok-push_items_member.ensures in
    let listed = then_piece [] _ (unlisted_list_json C f.unlisted.items) items (c.in_ok-push_unlisted_member.ensures ∙ ap (λ xs. c.push_items_member.new.text.items ++ unlisted_list_json C xs) unlisted) in
    let places = ap (map (λ place. place.now)) c.deref.ensures.value ∙ c.in_ok-findings.ensures.without_log in
    let lacking = then_piece [] _ (lacking_json f.unsettled (places_without_log C)) listed (c.in_ok-push_lacking.ensures ∙ ap (λ ps. c.push_unlisted_member.new.text.items ++ lacking_json f.unsettled ps) places) in
    let logs = c.in_ok-push_logs_member.ensures in
    record {
      findings = f;
      are_findings = c.in_ok-findings.ensures;
      answer = a;
      is_answer = c.answer-answer.ensures C c.in_ok-findings.ensures;
      logs = logs.0;
      are_logs = logs.1;
      text_is = then_piece [] _ (logs_list_json logs.0) lacking logs.2;
    }

pub returns-clause-status : goal.returns-clause-status
returns-clause-status c = (c.answer-answer.result, c.answer-answer.ensures c.args.collection.now c.in_ok-findings.ensures, c.answer_status-status.ensures)
