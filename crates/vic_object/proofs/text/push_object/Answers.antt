use Rattle.vic_object.proofs.text.push_object.Goals as goal

pub returns-in-RefusedAt : goal.returns-in-RefusedAt
returns-in-RefusedAt c = rw c.in-RefusedAt.is c.push_refused_object.ensures
