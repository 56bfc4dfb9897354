use Rattle.vic_field.proofs.Words.{ℕ, Bool, List, ◌∙◌, ap, has, uids}
use Rattle.vic_field.proofs.FieldRows.{row_has}
use Rattle.vic_field.proofs.field.Field.holds.Goals as goal

pub returns : goal.returns
returns c =
    c.holds.ensures
    ∙ row_has c.self.inside.row c.args.uid c.key.result c.key.ensures.is_uid c.key.ensures.value
    ∙ ap (λ (ts : List (ℕ × Bool)). has (uids ts) c.args.uid) c.self.view_is
