use Rattle.vic_field.proofs.Words.{ℕ, Bool, List, ◌∙◌, ap, tags_of, readiness}
use Rattle.vic_field.proofs.FieldRows.{new_readiness}
use Rattle.vic_field.proofs.RowLaws.{new_tags}
use Rattle.vic_field.proofs.field.Field.of_keys.Goals as goal

pub returns : goal.returns
returns c u h =
    ap (λ (es : List (ℕ × Bool)). readiness (tags_of es) u) (new_tags c.args.keys.items c.in_ok-quiet.quiet c.in_ok-quiet.ensures.none) ∙ new_readiness u c.args.keys.items
