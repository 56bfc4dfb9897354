use Rattle.std.proofs.lemmas.Result.{IfOk-weaker}
use Rattle.vic_walk.proofs.CutLaws.{uid_is_key}
use Rattle.vic_walk.proofs.cutting.push_named.Goals as goal

pub returns-in-Some-clause-key : goal.returns-in-Some-clause-key
returns-in-Some-clause-key c = IfOk-weaker c.push_uid.result _ _ (λ place has. uid_is_key _ _ place has) c.push_uid.ensures.uid

pub returns-in-Heard-clause-key : goal.returns-in-Heard-clause-key
returns-in-Heard-clause-key c = IfOk-weaker c.push_uid-in-Heard.result _ _ (λ place has. uid_is_key _ _ place has) c.push_uid-in-Heard.ensures.uid
