use Rattle.vic_field.proofs.Words.{ℕ, Bool, false, cond, List, ◌∙◌, ◌==◌, ap, option_map, tags_of, with_quiet, readiness}
use Rattle.vic_field.specs.Rows.{entries}
use Rattle.vic_field.proofs.FieldRows.{quiet_readiness}
use Rattle.vic_field.proofs.RowLaws.{keys_are}
use Rattle.vic_field.proofs.field.Field.quiet.Goals as goal

pub returns : goal.returns
returns c u h =
    let es = entries c.self.inside.row in
    ap (λ (xs : List (ℕ × Bool)). readiness (tags_of xs) u) (c.silence.ensures ∙ ap (λ k. with_quiet k es) c.key.ensures.value)
    ∙ quiet_readiness u c.args.uid es c.key.ensures.is_uid (keys_are c.self.inside.row).small
    ∙ ap (λ (ts : List (ℕ × Bool)). cond (u == c.args.uid) (option_map (λ _. false) (readiness ts u)) (readiness ts u)) c.self.view_is
