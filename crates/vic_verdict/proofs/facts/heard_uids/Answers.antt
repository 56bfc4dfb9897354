use Rattle.vic_verdict.proofs.Words.{◌≡◌, arith, entries}
use Rattle.vic_verdict.proofs.Meeting.{heard_at_list, heard_kept, heard_pushed}
use Rattle.vic_verdict.proofs.facts.heard_uids.Goals as goal
use Rattle.vic_verdict.proofs.facts.heard_uids.Goals.{in-Some+in_ok-push, in_default}

pub loop-index-preserved : goal.loop-index-preserved
loop-index-preserved c =
    let es = entries c.args.lines.now in
    let i = c.loop-index.index in
    let here = c.entry.ensures.here in
    elim c.match-heard.branch [
      | in-Some+in_ok-push w ↦ rw (w.heard-is, w.in_ok-push.ensures.items) (heard_pushed es i c.loop-index.heard.items c.entry.result _ here (rw w.in-Some.is at c.heard.ensures.some) c.loop-index.invariant)
      | in_default w ↦ rw w.heard-is (heard_kept es i c.loop-index.heard.items c.entry.result here w.in_default.ensures.none c.loop-index.invariant)
    ]

pub returns : goal.returns
returns c =
    let start = c.list_start-index-end in
    let end : c.loop-index.index ≡ start.result = omega (arith, c.loop-index-test.false, c.loop-index.auto.index-end) in
    heard_at_list (entries c.args.lines.now) start.result _ start.ensures.list (rw end at c.loop-index.invariant)
