use Rattle.std.proofs.Common.{◌∙◌, ap, ◌++◌, map}
use Rattle.std.proofs.lemmas.Result.{on_ok_weaker}
use Rattle.vic_text.proofs.Pieces.{then_piece, on_ok_items}
use Rattle.vic_text.specs.Json.{json_list, json_uid}
use Rattle.vic_object.proofs.text.push_certain.Goals as goal

pub returns : goal.returns
returns c =
    let t = c.args.text.now.items in
    let p1 = c.in_ok-push_words_count.ensures in
    let p2 = then_piece t _ _ p1 (c.in_ok-extend_from_slice.ensures.items) in
    let p3 = then_piece t _ _ p2 (c.in_ok-push_json_list.ensures ∙ ap (λ us. c.extend_from_slice.new.self.items ++ json_list (map json_uid us)) c.first_of.ensures) in
    on_ok_weaker c.extend_from_slice-2.result (λ e. then_piece t _ _ p3 e) (on_ok_items c.extend_from_slice-2.result _ _ c.extend_from_slice-2.ensures.items)
