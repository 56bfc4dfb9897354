use Rattle.vic_result.proofs.Words.{codes, decimal, on_ok_weaker, then_piece}
use Rattle.vic_text.proofs.Pieces.{on_ok_items}
use Rattle.vic_text.specs.Json.{json_mask}
use Rattle.vic_result.proofs.object.members.push_margin.Goals as goal

pub returns : goal.returns
returns c =
    let t = c.args.text.now.items in
    let margin = then_piece t (codes ",\"margin\":{\"margin\":") (decimal c.args.margin) c.in_ok-extend_from_slice.ensures.items c.in_ok-push_json.ensures in
    let weakest = then_piece t _ (json_mask c.args.weakest.now) (then_piece t _ (codes ",\"weakest\":") margin c.in_ok-extend_from_slice-2.ensures.items) c.in_ok-push_json-2.ensures in
    let log = then_piece t _ (decimal c.args.log) (then_piece t _ (codes ",\"log\":") weakest c.in_ok-extend_from_slice-3.ensures.items) c.in_ok-push_decimal.ensures in
    on_ok_weaker c.extend_from_slice-4.result (λ e. then_piece t _ (codes "}") log e) (on_ok_items c.extend_from_slice-4.result _ _ c.extend_from_slice-4.ensures.items)
