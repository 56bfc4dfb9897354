use Rattle.vic_result.proofs.Words.{codes, map, on_ok_weaker, then_piece}
use Rattle.vic_text.proofs.Pieces.{on_ok_items}
use Rattle.vic_text.specs.Json.{comma_joined}
use Rattle.vic_result.specs.ResultObject.{item_of_json}
use Rattle.vic_result.proofs.object.members.push_items_member.Goals as goal

pub returns : goal.returns
returns c =
    let t = c.args.text.now.items in
    let C = c.args.collection.now in
    let items = then_piece t (codes ",\"items\":[") (comma_joined (map (item_of_json C) C.catalogue.items)) c.in_ok-extend_from_slice.ensures.items c.in_ok-push_item_list.ensures in
    on_ok_weaker c.extend_from_slice-2.result (λ e. then_piece t _ (codes "]") items e) (on_ok_items c.extend_from_slice-2.result _ _ c.extend_from_slice-2.ensures.items)
