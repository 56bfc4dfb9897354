use Rattle.std.proofs.lemmas.Result.{on_ok_weaker}
use Rattle.vic_text.proofs.Pieces.{then_piece}
use Rattle.vic_object.proofs.text.push_reading_answer.Goals as goal

pub returns-in_ok-extend_from_slice : goal.returns-in_ok-extend_from_slice
returns-in_ok-extend_from_slice c =
    on_ok_weaker c.push_margin.result (λ e. rw c.if-reading.true (then_piece c.args.text.now.items _ _ c.in_ok-extend_from_slice.ensures.items e)) c.push_margin.ensures
