use Rattle.vic_result.proofs.Words.{length, refl, slice_get_read}
use Rattle.vic_result.specs.ResultObject.{unlisted_json}
use Rattle.vic_result.proofs.Commas.{comma_next}
use Rattle.vic_result.proofs.object.push_unlisted_list.Goals as goal

pub loop-index-preserved : goal.loop-index-preserved
loop-index-preserved c =
    let i = c.loop-index.index in
    let xs = c.args.unlisted.now in
    let x = c.index-unlisted-index.result in
    comma_next (unlisted_json c.args.collection.now) c.args.text.now.items xs i x (slice_get_read xs (length xs) i x refl c.loop-index-test.true c.index-unlisted-index.is) c.loop-index.invariant c.in_ok-push_comma.ensures c.in_ok-push_unlisted_uid.ensures
