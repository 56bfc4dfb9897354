use Rattle.vic_result.proofs.Words.{◌≡◌, ◌∙◌, ◌++◌, ap, codes, decimal, refl, then_piece}
use Rattle.vic_text.specs.Json.{json_uid}
use Rattle.vic_collection.specs.Collections.{certain_logs, undecided_logs}
use Rattle.vic_result.specs.ResultObject.{logs_json}
use Rattle.vic_result.proofs.ItemCells.{unlisted_named}
use Rattle.vic_result.proofs.object.item_list.push_unlisted_uid.Goals as goal

pub logs_of_uid-logs-requires-clause-named : goal.logs_of_uid-logs-requires-clause-named
logs_of_uid-logs-requires-clause-named c = unlisted_named c.args.collection.now c.args.uid c.requires.unlisted

pub returns : goal.returns
returns c =
    let t = c.args.text.now.items in
    let C = c.args.collection.now in
    let u = c.args.uid in
    let uid = then_piece t (codes "{\"uid\":") (json_uid u) c.in_ok-extend_from_slice.ensures.items c.in_ok-push_json.ensures in
    let logs_are : logs_json c.logs_of_uid-logs.result.certain.now c.logs_of_uid-logs.result.undecided.now ≡ logs_json (certain_logs C u) (undecided_logs C u) = rw (c.logs_of_uid-logs.ensures.certain, c.logs_of_uid-logs.ensures.undecided) refl in
    let logs = then_piece t _ (logs_json (certain_logs C u) (undecided_logs C u)) uid (c.in_ok-push_uid_logs.ensures ∙ ap (λ s. c.push_json.new.text.items ++ s) logs_are) in
    let line = then_piece t _ (decimal c.args.line) (then_piece t _ (codes ",\"line\":") logs c.in_ok-extend_from_slice-2.ensures.items) (c.in_ok-push_decimal.ensures ∙ ap (λ n. c.extend_from_slice-2.new.self.items ++ decimal n) c.from.ensures) in
    then_piece t _ (codes "}") line c.in_ok-extend_from_slice-3.ensures.items
