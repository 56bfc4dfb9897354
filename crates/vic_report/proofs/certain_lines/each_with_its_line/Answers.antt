use Rattle.vic_report.proofs.Words.{◌≡◌, [], ◌∷◌, ◌++◌, ◌∙◌, take, ap, arith, get_or, get_or_default, subst, sym, All-push, entries, IsFirstReply, ShowsCertain, IsShownCertain, IsShownFirst, map_push, take_all, take_more}
use Rattle.vic_report.proofs.NotedLines.{noted_line}
use Rattle.vic_verdict.specs.Verdict.{IsHeard}
use Rattle.vic_report.proofs.certain_lines.each_with_its_line.Goals as goal

pub bounds : goal.bounds
bounds c = omega (arith, c.requires.room, c.loop-index-test.true)

pub unreachable-requires : goal.unreachable-requires
unreachable-requires c = let w = noted_line c.args.noted.now c.loop-index.index (c.requires.noted c.loop-index.index c.loop-index-test.true) in c.in_default.not-Some w.0 w.1

pub loop-index-preserved : goal.loop-index-preserved
loop-index-preserved c =
    let us = c.args.uids.now in
    let i = c.loop-index.index in
    let u = c.index-uids-index.result in
    let lt = c.loop-index-test.true in
    let here : get_or us i 0 ≡ u = get_or_default us i 0 u lt ∙ sym c.index-uids-index.is in
    record {
      uids = rw (c.in_ok-push.ensures.items, map_push, c.loop-index.invariant.uids, take_more us i u lt) (ap (λ v. take i us ++ v ∷ []) c.index-uids-index.is);
      shown = λ lines noted. rw c.in_ok-push.ensures.items (All-push (IsShownCertain lines) c.loop-index.shown.items _ (c.loop-index.invariant.shown lines noted) (subst (ShowsCertain lines c.in-Some.line) here (noted i c.in-Some.line c.in-Some.is)));
      first = λ lines noted. rw c.in_ok-push.ensures.items (All-push (IsShownFirst lines) c.loop-index.shown.items _ (c.loop-index.invariant.first lines noted) (subst (λ v. IsHeard (entries lines) v → IsFirstReply lines c.in-Some.line v) here (noted i c.in-Some.line lt c.in-Some.is)));
    }

pub returns-clause-uids : goal.returns-clause-uids
returns-clause-uids c = c.loop-index.invariant.uids ∙ take_all c.loop-index.index c.args.uids.now (omega (arith, c.loop-index-test.false))

pub returns-clause-shown : goal.returns-clause-shown
returns-clause-shown c = c.loop-index.invariant.shown

pub returns-clause-first : goal.returns-clause-first
returns-clause-first c = c.loop-index.invariant.first
