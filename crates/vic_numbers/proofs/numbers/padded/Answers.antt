use Rattle.vic_numbers.proofs.Words.{ℕ, List, ◌++◌, length, drop, replicate, ap, ◌∙◌, drop-replicate}
use Rattle.vic_answer.specs.declared.text.TheConstants.{ANSWER_ROOM}
use Rattle.vic_numbers.proofs.numbers.padded.Goals as goal

pub returns : goal.returns
returns c =
    let text = c.args.text.now in
    ap (λ (xs : List ℕ). xs ++ drop (length text) (replicate ANSWER_ROOM 0)) c.copy_from_slice.ensures.after
    ∙ ap (λ (ys : List ℕ). text ++ ys) (drop-replicate (length text) ANSWER_ROOM 0)
