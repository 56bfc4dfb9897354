use Rattle.vic_collection.proofs.Words.{◌∙◌, ap, not, nat_eq, length}
use Rattle.vic_collection.specs.Collections.{is_certain_in}
use Rattle.vic_collection.proofs.Telling.{some_position}
use Rattle.vic_collection.proofs.collection.Collection.is_certain_in_some.Goals as goal

pub returns : goal.returns
returns c =
    ap not c.is_empty.ensures ∙ (ap (λ logs. not (nat_eq (length logs) 0)) c.requires ∙ some_position (λ s. is_certain_in s c.args.uid) 0 c.args.self.now.surveys)
