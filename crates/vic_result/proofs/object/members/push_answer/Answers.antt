use Rattle.vic_result.proofs.Words.{◌∙◌, ◌++◌, ap, codes, decimal, on_ok_weaker, then_piece}
use Rattle.vic_text.specs.Json.{json_string}
use Rattle.vic_result.proofs.object.members.push_answer.Goals as goal

pub returns : goal.returns
returns c =
    let t = c.args.text.now.items in
    let status = then_piece t (codes "{\"schema\":2,\"status\":") (decimal c.args.status) c.in_ok-extend_from_slice.ensures.items (c.in_ok-push_decimal.ensures ∙ ap (λ n. c.extend_from_slice.new.self.items ++ decimal n) c.from.ensures) in
    let answer = then_piece t _ (codes ",\"answer\":") status c.in_ok-extend_from_slice-2.ensures.items in
    on_ok_weaker c.push_json_string.result (λ e. then_piece t _ (json_string c.args.line.now) answer e) c.push_json_string.ensures
