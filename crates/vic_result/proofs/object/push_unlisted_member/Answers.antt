use Rattle.vic_result.proofs.Words.{codes, map, on_ok_weaker, then_piece}
use Rattle.vic_text.proofs.Pieces.{on_ok_items}
use Rattle.vic_text.specs.Json.{comma_joined}
use Rattle.vic_result.specs.ResultObject.{unlisted_json}
use Rattle.vic_result.proofs.object.push_unlisted_member.Goals as goal

pub returns : goal.returns
returns c =
    let t = c.args.text.now.items in
    let unlisted = then_piece t (codes ",\"unexpected\":[") (comma_joined (map (unlisted_json c.args.collection.now) c.args.unlisted.now)) c.in_ok-extend_from_slice.ensures.items c.in_ok-push_unlisted_list.ensures in
    on_ok_weaker c.extend_from_slice-2.result (λ e. then_piece t _ (codes "]") unlisted e) (on_ok_items c.extend_from_slice-2.result _ _ c.extend_from_slice-2.ensures.items)
