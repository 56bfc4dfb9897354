use Rattle.vicinity_c.proofs.Words.{ℕ, List, ◌++◌, length, drop, replicate, ap, ◌∙◌, drop-replicate}
use Rattle.vicinity_c.specs.declared.lines.TheConstants.{LINE_ROOM}
use Rattle.vicinity_c.specs.declared.lines.VicinityLine.{VicinityLine}
use Rattle.vicinity_c.proofs.lines.lined.Goals as goal

pub returns : goal.returns
returns c =
    let text : List ℕ = c.args.text.now in
    let with_text : List ℕ → VicinityLine = λ ys. record { fault = 0; len = length text; text = ys } in
    ap with_text (
    ap (λ (xs : List ℕ). xs ++ drop (length text) (replicate LINE_ROOM 0)) c.copy_from_slice.ensures.after
    ∙ ap (λ (ys : List ℕ). text ++ ys) (drop-replicate (length text) LINE_ROOM 0))
