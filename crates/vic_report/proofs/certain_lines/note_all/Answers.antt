use Rattle.vic_report.proofs.Words.{◌≡◌, ◌+◌, true, sym, subst, arith, take, take_all, has, member_at}
use Rattle.vic_report.proofs.NotedLines.{both_noted, member_split}
use Rattle.vic_report.specs.inner.NotedLines.{HasNoted}
use Rattle.vic_report.proofs.certain_lines.note_all.Goals as goal

pub loop-uid-preserved : goal.loop-uid-preserved
loop-uid-preserved c lines up shows =
    let us = c.args.several.now in
    let i = c.loop-uid.uid-index in
    let own = c.uid-item.result in
    let below = c.loop-uid-test.true in
    both_noted lines c.args.uids.now c.args.noted.now c.loop-uid.noted c.note.new.noted (λ u. has (take i us) u ≡ true) (λ u. u ≡ own) (λ u. has (take (i + 1) us) u ≡ true) (λ u h. member_split us i u own below c.uid-item.is h)
    (c.loop-uid.invariant lines up shows)
    (c.note.ensures.noted lines up (shows own (member_at us i own own below (sym c.uid-item.is))))

pub returns : goal.returns
returns c lines up shows =
    let end = c.loop-uid-test.false in
    subst (λ us. HasNoted lines c.args.uids.now c.args.noted.now c.loop-uid.noted (λ u. has us u ≡ true)) (take_all c.loop-uid.uid-index c.args.several.now (omega (arith, end))) (c.loop-uid.invariant lines up shows)
