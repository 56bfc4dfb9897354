use Rattle.vic_field.proofs.Words.{ℕ, Bool, true, List, ◌∙◌, ◌==◌, ap, option_map, tags_of, readiness, lookup-map_values}
use Rattle.vic_field.specs.Rows.{entries}
use Rattle.vic_field.proofs.TagLaws.{tags_of-map}
use Rattle.vic_field.proofs.field.Field.power_cycle.Goals as goal

pub returns : goal.returns
returns c u =
    let es = entries c.self.inside.row in
    ap (λ (xs : List (ℕ × Bool)). readiness (tags_of xs) u) c.wake.ensures
    ∙ ap (λ (ts : List (ℕ × Bool)). readiness ts u) (tags_of-map true es)
    ∙ lookup-map_values (λ _. true) (λ x. u == x) (tags_of es)
    ∙ ap (λ (ts : List (ℕ × Bool)). option_map (λ _. true) (readiness ts u)) c.self.view_is
