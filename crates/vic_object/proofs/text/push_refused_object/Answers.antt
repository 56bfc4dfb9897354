use Rattle.std.proofs.lemmas.Result.{on_ok_weaker}
use Rattle.vic_text.proofs.Pieces.{then_piece, on_ok_items}
use Rattle.vic_object.proofs.text.push_refused_object.Goals as goal

pub returns : goal.returns
returns c =
    let t = c.args.text.now.items in
    let p1 = c.in_ok-extend_from_slice.ensures.items in
    let p2 = then_piece t _ _ p1 (c.in_ok-push_refused.ensures) in
    let p3 = then_piece t _ _ p2 (c.in_ok-push_text_members.ensures) in
    let p4 = then_piece t _ _ p3 (c.in_ok-extend_from_slice-2.ensures.items) in
    let p5 = then_piece t _ _ p4 (c.in_ok-push_counts.ensures) in
    let p6 = then_piece t _ _ p5 (c.in_ok-extend_from_slice-3.ensures.items) in
    on_ok_weaker c.extend_from_slice-4.result (λ e. then_piece t _ _ p6 e) (on_ok_items c.extend_from_slice-4.result _ _ c.extend_from_slice-4.ensures.items)
