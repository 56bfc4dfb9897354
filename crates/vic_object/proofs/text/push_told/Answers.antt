use Rattle.std.proofs.Common.{◌∙◌, ap, ◌++◌}
use Rattle.std.proofs.lemmas.Result.{on_ok_weaker}
use Rattle.vic_text.proofs.Pieces.{then_piece, on_ok_items}
use Rattle.vic_answer.specs.declared.answered.Answered.TheVariants.{Found}
use Rattle.vic_object.specs.ObjectText.{findings_members, text_members, verdict_members}
use Rattle.vic_object.proofs.text.push_told.Goals as goal

pub returns : goal.returns
returns c =
    let t = c.args.text.now.items in
    let p1 = c.in_ok-extend_from_slice.ensures.items in
    let p2 = then_piece t _ _ p1 (c.in_ok-push_verdict.ensures ∙ ap (λ v. c.extend_from_slice.new.self.items ++ verdict_members v) c.verdict-verdict.ensures) in
    let p3 = then_piece t _ _ p2 (c.in_ok-push_readings.ensures) in
    let p4 = then_piece t _ _ p3 (c.in_ok-push_text_members.ensures ∙ ap (λ v. c.push_readings.new.text.items ++ text_members c.args.log_text.now (Found v)) c.verdict-verdict.ensures) in
    let p5 = then_piece t _ _ p4 (c.in_ok-push_findings.ensures ∙ ap (λ xs. c.push_text_members.new.text.items ++ findings_members xs c.args.told.now.report) c.deref.ensures.value) in
    let p6 = then_piece t _ _ p5 (c.in_ok-push_field.ensures) in
    let p7 = then_piece t _ _ p6 (c.in_ok-extend_from_slice-2.ensures.items) in
    let p8 = then_piece t _ _ p7 (c.in_ok-push_json.ensures) in
    on_ok_weaker c.extend_from_slice-3.result (λ e. then_piece t _ _ p8 e) (on_ok_items c.extend_from_slice-3.result _ _ c.extend_from_slice-3.ensures.items)
