use Rattle.std.proofs.lemmas.Result.{on_ok_weaker}
use Rattle.vic_text.proofs.Pieces.{then_piece}
use Rattle.vic_object.proofs.answer.push_weakest.Goals as goal

pub returns : goal.returns
returns c =
    let t = c.args.text.now.items in
    let two = then_piece t _ _ c.in_ok-push_words_number.ensures c.in_ok-extend_from_slice.ensures.items in
    on_ok_weaker c.push_json.result (λ e. then_piece t _ _ two e) c.push_json.ensures
