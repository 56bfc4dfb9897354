use Rattle.vic_result.proofs.Words.{codes, on_ok_weaker, then_piece}
use Rattle.std.specs.Option.{option_map}
use Rattle.vic_text.specs.Json.{json_bool, json_option, json_string}
use Rattle.vic_result.proofs.object.logs.push_log_head.Goals as goal

pub returns : goal.returns
returns c =
    let t = c.args.text.now.items in
    let name = then_piece t (codes "{\"name\":") (json_string c.args.name.now) c.in_ok-extend_from_slice.ensures.items c.in_ok-push_json_string.ensures in
    let place = then_piece t _ (json_option json_string (option_map (λ p. p.now) c.args.place)) (then_piece t _ (codes ",\"place\":") name c.in_ok-extend_from_slice-2.ensures.items) c.in_ok-push_optional_string.ensures in
    let left = then_piece t _ (json_bool c.args.left_over) (then_piece t _ (codes ",\"left_over\":") place c.in_ok-extend_from_slice-3.ensures.items) c.in_ok-push_json.ensures in
    let field = then_piece t _ (codes ",\"field\":") left c.in_ok-extend_from_slice-4.ensures.items in
    on_ok_weaker c.push_json_string-2.result (λ e. then_piece t _ (json_string c.args.field.now) field e) c.push_json_string-2.ensures
