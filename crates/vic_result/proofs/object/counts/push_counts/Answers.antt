use Rattle.vic_result.proofs.Words.{codes, decimal, flat_map, on_ok_weaker, then_piece}
use Rattle.vic_result.specs.ResultObject.{count_json}
use Rattle.vic_result.specs.StateNames.{all_states, state_name}
use Rattle.vic_text.proofs.Pieces.{on_ok_items}
use Rattle.vic_result.proofs.object.counts.push_counts.Goals as goal

pub returns : goal.returns
returns c =
    let t = c.args.text.now.items in
    let each = then_piece t (codes "{") (flat_map (λ kind. count_json c.args.states.now (state_name kind)) all_states) c.in_ok-extend_from_slice.ensures.items c.in_ok-push_each_count.ensures in
    let unlisted = then_piece t _ (decimal c.args.unlisted) (then_piece t _ (codes "\"unexpected\":") each c.in_ok-extend_from_slice-2.ensures.items) c.in_ok-push_decimal.ensures in
    on_ok_weaker c.extend_from_slice-3.result (λ e. then_piece t _ (codes "}") unlisted e) (on_ok_items c.extend_from_slice-3.result _ _ c.extend_from_slice-3.ensures.items)
