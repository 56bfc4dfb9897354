use Rattle.std.proofs.Common.{◌∙◌, ap, ◌++◌}
use Rattle.std.proofs.lemmas.Result.{on_ok_weaker}
use Rattle.vic_text.proofs.Pieces.{then_piece, on_ok_items}
use Rattle.vic_object.proofs.answer.push_refused.Goals as goal

pub returns : goal.returns
returns c =
    let t = c.args.text.now.items in
    let p1 = c.in_ok-push_words_number.ensures in
    let p2 = then_piece t _ _ p1 (c.in_ok-extend_from_slice.ensures.items) in
    let p3 = then_piece t _ _ p2 (c.in_ok-extend_from_slice-2.ensures.items ∙ ap (λ x. c.extend_from_slice.new.self.items ++ x) (c.as_bytes.ensures.value ∙ c.name.ensures.name)) in
    on_ok_weaker c.extend_from_slice-3.result (λ e. then_piece t _ _ p3 e) (on_ok_items c.extend_from_slice-3.result _ _ c.extend_from_slice-3.ensures.items)
