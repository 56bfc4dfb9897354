use Rattle.vic_field.proofs.Words.{ℕ, Bool, true, cond, List, Some, ◌∙◌, ◌==◌, ap, sym, has, tags_of, readiness, uids}
use Rattle.vic_field.specs.Rows.{entries}
use Rattle.vic_field.proofs.FieldRows.{more_readiness, row_has}
use Rattle.vic_field.proofs.field.Field.add.Goals as goal

pub put-requires : goal.put-requires
put-requires c =
    row_has c.self.inside.row c.args.uid c.key.result c.key.ensures.is_uid c.key.ensures.value
    ∙ ap (λ (ts : List (ℕ × Bool)). has (uids ts) c.args.uid) c.self.view_is
    ∙ sym c.if-holds.ensures

pub returns-clause-added : goal.returns-clause-added
returns-clause-added c u h =
    let es = entries c.self.inside.row in
    let more = c.in_ok-put.ensures.more in
    ap (λ (xs : List (ℕ × Bool)). readiness (tags_of xs) u) more.1
    ∙ more_readiness u c.args.uid c.key.result es more.0 c.key.ensures.back (ap (λ (ts : List (ℕ × Bool)). has (uids ts) c.args.uid) c.self.view_is ∙ sym c.if-holds.ensures)
    ∙ ap (λ (ts : List (ℕ × Bool)). cond (u == c.args.uid) (Some true) (readiness ts u)) c.self.view_is
