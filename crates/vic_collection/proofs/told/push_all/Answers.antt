use Rattle.vic_collection.proofs.Words.{◌∙◌, ap, ◌++◌, cond, nat_eq, ◌∷◌, []}
use Rattle.vic_collection.specs.Collections.{logs_in}
use Rattle.vic_collection.specs.declared.logs_by_uid.LogOfUid.{LogOfUid}
use Rattle.vic_collection.proofs.Sighted.{logs_pushed}
use Rattle.vic_collection.proofs.Telling.{shown_added}
use Rattle.vic_collection.proofs.told.push_all.Goals as goal

pub loop-shown-preserved : goal.loop-shown-preserved
loop-shown-preserved c = λ u.
    let one : LogOfUid = record { uid = c.shown-item.result.uid; log = c.args.log } in
    ap (λ l. logs_in l u) c.in_ok-push.ensures.items ∙ (logs_pushed c.loop-shown.sightings.items one u ∙ (ap (λ l. l ++ cond (nat_eq u c.shown-item.result.uid) (c.args.log ∷ []) []) (c.loop-shown.invariant u)
    ∙ shown_added c.args.uids.now c.loop-shown.shown-index c.shown-item.result (logs_in c.args.sightings.now.items u) c.args.log u c.requires c.loop-shown-test.true c.shown-item.is))
