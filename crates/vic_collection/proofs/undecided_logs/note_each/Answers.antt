use Rattle.vic_collection.proofs.Words.{◌∙◌, ap, ◌++◌, cond, nat_eq, ◌∷◌, []}
use Rattle.vic_collection.specs.Collections.{logs_in}
use Rattle.vic_collection.specs.declared.logs_by_uid.LogOfUid.{LogOfUid}
use Rattle.vic_collection.proofs.Sighted.{logs_pushed}
use Rattle.vic_collection.proofs.Telling.{logs_added}
use Rattle.vic_collection.proofs.undecided_logs.note_each.Goals as goal

pub loop-uid-preserved : goal.loop-uid-preserved
loop-uid-preserved c = λ u.
    let one : LogOfUid = record { uid = c.uid-item.result; log = c.args.log } in
    ap (λ l. logs_in l u) c.in_ok-push.ensures.items ∙ (logs_pushed c.loop-uid.rows.items one u ∙ (ap (λ l. l ++ cond (nat_eq u c.uid-item.result) (c.args.log ∷ []) []) (c.loop-uid.invariant u)
    ∙ logs_added c.args.uids.now c.loop-uid.uid-index c.uid-item.result (logs_in c.args.rows.now.items u) c.args.log u c.requires c.loop-uid-test.true c.uid-item.is))
