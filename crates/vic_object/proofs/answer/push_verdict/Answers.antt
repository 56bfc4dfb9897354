use Rattle.std.proofs.lemmas.Result.{on_ok_weaker}
use Rattle.vic_text.proofs.Pieces.{then_piece}
use Rattle.vic_object.proofs.answer.push_verdict.Goals as goal

pub returns-in_ok-extend_from_slice-in-Unsettled : goal.returns-in_ok-extend_from_slice-in-Unsettled
returns-in_ok-extend_from_slice-in-Unsettled c =
    on_ok_weaker c.push_mask_members.result (λ e. rw c.in-Unsettled.is (then_piece c.args.text.now.items _ _ c.in_ok-extend_from_slice-in-Unsettled.ensures.items e)) c.push_mask_members.ensures

pub returns-in-Doubtful : goal.returns-in-Doubtful
returns-in-Doubtful c = rw c.in-Doubtful.is c.push_words_uid-in-Doubtful.ensures
