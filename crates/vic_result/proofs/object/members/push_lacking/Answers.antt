use Rattle.vic_result.proofs.Words.{codes, map, on_ok_weaker, then_piece}
use Rattle.vic_text.specs.Json.{json_list, json_mask, json_option, json_string}
use Rattle.vic_result.proofs.object.members.push_lacking.Goals as goal

pub returns : goal.returns
returns c =
    let t = c.args.text.now.items in
    let unsettled = then_piece t (codes ",\"unsettled\":") (json_option json_mask c.args.unsettled.now) c.in_ok-extend_from_slice.ensures.items c.in_ok-push_json.ensures in
    let without = then_piece t _ (codes ",\"without_log\":") unsettled c.in_ok-extend_from_slice-2.ensures.items in
    on_ok_weaker c.push_strings.result (λ e. then_piece t _ (json_list (map json_string (map (λ place. place.now) c.args.places.now))) without e) c.push_strings.ensures
