use Rattle.vicinity_c.proofs.Words.{ℕ, List, ◌++◌, length, drop, replicate, ap, ◌∙◌, drop-replicate}
use Rattle.vicinity_c.specs.declared.names.TheConstants.{NAME_ROOM}
use Rattle.vicinity_c.specs.declared.names.VicinityName.{VicinityName}
use Rattle.vicinity_c.proofs.names.named.Goals as goal

pub returns : goal.returns
returns c =
    let name : List ℕ = c.args.name.now in
    let with_text : List ℕ → VicinityName = λ ys. record { len = length name; text = ys } in
    ap with_text (
    ap (λ (xs : List ℕ). xs ++ drop (length name) (replicate NAME_ROOM 0)) c.copy_from_slice.ensures.after
    ∙ ap (λ (ys : List ℕ). name ++ ys) (drop-replicate (length name) NAME_ROOM 0))
