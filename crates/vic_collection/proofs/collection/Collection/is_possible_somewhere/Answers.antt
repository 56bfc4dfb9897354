use Rattle.vic_collection.proofs.Words.{sym, ap, ◌∙◌}
use Rattle.vic_collection.specs.Collections.{is_certain_somewhere, is_possible_somewhere}
use Rattle.vic_collection.proofs.Telling.{possible_elsewhere, possible_where_certain}
use Rattle.vic_collection.proofs.collection.Collection.is_possible_somewhere.Goals as goal

pub returns-then-certain : goal.returns-then-certain
returns-then-certain c = c.if-certain.true ∙ sym (possible_where_certain c.args.self.now.surveys c.args.uid (sym c.requires ∙ c.if-certain.true))

pub returns-else-certain : goal.returns-else-certain
returns-else-certain c =
    let inside = c.self.inside in
    let nowhere = ap (λ v. is_certain_somewhere v c.args.uid) c.self.view_is ∙ (sym c.requires ∙ c.if-certain.false) in
    c.may_have.ensures.value ∙ (possible_elsewhere inside.surveys.items inside.told c.args.uid c.self.invariant.2 c.may_have.ensures.range nowhere ∙ ap (λ v. is_possible_somewhere v c.args.uid) c.self.view_is)
