use Rattle.vic_result.proofs.Words.{codes, decimal, on_ok_weaker, then_piece}
use Rattle.vic_result.proofs.object.logs.push_log_counts.Goals as goal

pub returns : goal.returns
returns c =
    let t = c.args.text.now.items in
    let answers = then_piece t (codes ",\"answers\":") (decimal c.args.answers) c.in_ok-extend_from_slice.ensures.items (rw c.from.ensures at c.in_ok-push_decimal.ensures) in
    let certain = then_piece t _ (decimal c.args.certain) (then_piece t _ (codes ",\"certain\":") answers c.in_ok-extend_from_slice-2.ensures.items) c.in_ok-push_decimal-2.ensures in
    let shared = then_piece t _ (codes ",\"shared\":") certain c.in_ok-extend_from_slice-3.ensures.items in
    on_ok_weaker c.push_decimal-3.result (λ e. then_piece t _ (decimal c.args.shared) shared e) c.push_decimal-3.ensures
