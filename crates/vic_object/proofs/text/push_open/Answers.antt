use Rattle.std.proofs.Common.{◌∙◌, ap, ◌++◌, map}
use Rattle.std.proofs.lemmas.Result.{on_ok_weaker}
use Rattle.vic_text.proofs.Pieces.{then_piece, on_ok_items}
use Rattle.vic_text.specs.Json.{json_list}
use Rattle.vic_object.specs.ObjectText.{asked_object}
use Rattle.vic_object.proofs.text.push_open.Goals as goal

pub returns : goal.returns
returns c =
    let t = c.args.text.now.items in
    let p1 = c.in_ok-extend_from_slice.ensures.items in
    let p2 = then_piece t _ _ p1 (c.in_ok-push_decimal.ensures) in
    let p3 = then_piece t _ _ p2 (c.in_ok-extend_from_slice-2.ensures.items) in
    let p4 = then_piece t _ _ p3 (c.in_ok-push_decimal-2.ensures) in
    let p5 = then_piece t _ _ p4 (c.in_ok-extend_from_slice-3.ensures.items) in
    let p6 = then_piece t _ _ p5 (c.in_ok-push_json_list.ensures ∙ ap (λ xs. c.extend_from_slice-3.new.self.items ++ json_list (map asked_object xs)) c.deref.ensures.value) in
    on_ok_weaker c.extend_from_slice-4.result (λ e. then_piece t _ _ p6 e) (on_ok_items c.extend_from_slice-4.result _ _ c.extend_from_slice-4.ensures.items)
