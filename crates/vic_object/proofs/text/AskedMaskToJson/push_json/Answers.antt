use Rattle.std.proofs.Common.{◌∙◌, ap, ◌++◌, map}
use Rattle.std.proofs.lemmas.Result.{on_ok_weaker}
use Rattle.vic_text.proofs.Pieces.{then_piece, on_ok_items}
use Rattle.vic_text.specs.Json.{json_list}
use Rattle.vic_object.specs.ObjectText.{request_string}
use Rattle.vic_object.proofs.text.AskedMaskToJson.push_json.Goals as goal

pub returns : goal.returns
returns c =
    let t = c.args.text.now.items in
    let p1 = c.in_ok-extend_from_slice.ensures.items in
    let p2 = then_piece t _ _ p1 (c.in_ok-push_mask_members.ensures) in
    let p3 = then_piece t _ _ p2 (c.in_ok-extend_from_slice-2.ensures.items) in
    let p4 = then_piece t _ _ p3 (c.in_ok-push_json_list.ensures ∙ ap (λ qs. c.extend_from_slice-2.new.self.items ++ json_list (map request_string qs)) c.deref.ensures.value) in
    on_ok_weaker c.extend_from_slice-3.result (λ e. then_piece t _ _ p4 e) (on_ok_items c.extend_from_slice-3.result _ _ c.extend_from_slice-3.ensures.items)
