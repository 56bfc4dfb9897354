use Rattle.vic_margin.proofs.Words.{List, Entry}
use Rattle.vic_log.proofs.Cautious.{deaf_weaker_self, hidden_weaker}
use Rattle.vic_log.proofs.Weaker.{weaker_listed}
use Rattle.vic_log.specs.Order.{entries}
use Rattle.vic_verdict.specs.Verdict.{IsVerdict}
use Rattle.vic_verdict.specs.declared.judging.Verdict.TheVariants.{Complete}
use Rattle.vic_margin.proofs.Opened.{first_unsettled}
use Rattle.vic_margin.proofs.cautious.readings_if_complete.Goals as goal

pub readings_of_complete-requires-clause-verdict : goal.readings_of_complete-requires-clause-verdict
readings_of_complete-requires-clause-verdict c = (c.in-Complete.count, rw c.in-Complete.is at c.requires.verdict)

pub returns-in_ok-_hidden-in-Complete : goal.returns-in_ok-_hidden-in-Complete
returns-in_ok-_hidden-in-Complete c =
    let lines = c.args.log.lines in
    let es : List Entry = entries lines in
    let n = c.in-Complete.count in
    let r = c.in_ok-_hidden-in-Complete.readings in
    let v : IsVerdict lines (Complete n) = rw c.in-Complete.is at c.requires.verdict in
    let told = c.in_ok-_hidden-in-Complete.ensures.readings in
    rw c.in-Complete.is (record {
      hidden = first_unsettled lines n _ r.hidden (weaker_listed _ es (hidden_weaker es)) v told.hidden;
      deaf = first_unsettled lines n _ r.deaf (weaker_listed _ es (deaf_weaker_self es)) v told.deaf;
    })
