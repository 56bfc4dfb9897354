use Rattle.vic_verdict.proofs.Words.{◌≡◌, ◌∙◌, None, Some, arith, false≢true, refl, suc, sym, length, length-map, LogLine, entries}
use Rattle.vic_walk.specs.Met.{AreMetBefore}
use Rattle.vic_walk.specs.Walk.{IsEndOfWalk}
use Rattle.vic_verdict.proofs.Meeting.{met_all}
use Rattle.vic_verdict.proofs.Walking.{first_broken, first_unmet, met_enough, walked}
use Rattle.vic_verdict.proofs.facts.open_and_met.Goals as goal

pub first_lack-requires-clause-ends : goal.first_lack-requires-clause-ends
first_lack-requires-clause-ends g c =
    let w = c.in_ok-log_parts.field-0 in
    let told = c.in_ok-log_parts.broken-is in
    let here = c.in-Some.is in
    let is : w.broken ≡ Some c.in-Some.at = cc in
    let end : IsEndOfWalk w.log_parts.parts (entries c.args.lines.now) w (Some c.in-Some.at) = rw is at c.in_ok-log_parts.ensures.walk in
    rw c.deref.ensures.value (record { position = suc c.in-Some.at; far = omega arith; within = omega (arith, end.0); known = end.2 })

pub closed_keys-requires : goal.closed_keys-requires
closed_keys-requires g c =
    let w = c.in_ok-log_parts.field-0 in
    let told = c.in_ok-log_parts.broken-is in
    let end = walked w.log_parts.parts (entries c.args.lines.now) w w.broken c.in_ok-log_parts.ensures.walk (λ i is. c.in_default.not-Some i (cc)) in
    rw c.deref-2.ensures.value end.1.room

pub open_answers-requires-clause-open : goal.open_answers-requires-clause-open
open_answers-requires-clause-open g c =
    let w = c.in_ok-log_parts.field-0 in
    let told = c.in_ok-log_parts.broken-is in
    (walked w.log_parts.parts (entries c.args.lines.now) w w.broken c.in_ok-log_parts.ensures.walk (λ i is. c.in_default.not-Some i (cc))).0

pub first_lack-requires-then-not-are_met-clause-ends : goal.first_lack-requires-then-not-are_met-clause-ends
first_lack-requires-then-not-are_met-clause-ends g c =
    let es = entries c.args.lines.now in
    let w = c.in_ok-log_parts.field-0 in
    let told = c.in_ok-log_parts.broken-is in
    let end = walked w.log_parts.parts es w w.broken c.in_ok-log_parts.ensures.walk (λ i is. c.in_default.not-Some i (cc)) in
    let long = length-map c.args.lines.now (λ (l : LogLine). l.item) in
    rw c.deref-then-not-are_met.ensures.value (record { position = length es; far = omega (arith, long, c.len.ensures); within = omega arith; known = end.1 })

pub returns-in-Some-clause-facts : goal.returns-in-Some-clause-facts
returns-in-Some-clause-facts g c =
    let es = entries c.args.lines.now in
    let w = c.in_ok-log_parts.field-0 in
    let told = c.in_ok-log_parts.broken-is in
    let here = c.in-Some.is in
    let is : w.broken ≡ Some c.in-Some.at = cc in
    let end : IsEndOfWalk w.log_parts.parts es w (Some c.in-Some.at) = rw is at c.in_ok-log_parts.ensures.walk in
    let lack = c.in_ok-first_lack.ensures in
    first_broken es c.in-Some.at c.in_ok-first_lack.field-0 end.0 end.3 end.4 lack.upto lack.met lack.lack

pub returns-then-not-are_met-clause-facts : goal.returns-then-not-are_met-clause-facts
returns-then-not-are_met-clause-facts g c =
    let es = entries c.args.lines.now in
    let w = c.in_ok-log_parts.field-0 in
    let told = c.in_ok-log_parts.broken-is in
    let end = walked w.log_parts.parts es w w.broken c.in_ok-log_parts.ensures.walk (λ i is. c.in_default.not-Some i (cc)) in
    let lack = c.in_ok-first_lack-2.ensures in
    let iff = rw c.deref-3.ensures.value at c.are_met.ensures in
    let unmet = λ (met : AreMetBefore es (length es)). false≢true (sym c.if-not-are_met.true ∙ iff.1 (met_enough es c.in_ok-unread.unread.items c.in_ok-unread.ensures met)) in
    first_unmet es c.len.result c.in_ok-first_lack-2.field-0 (length-map c.args.lines.now (λ (l : LogLine). l.item) ∙ sym c.len.ensures) end.2 unmet lack.upto lack.met lack.lack

pub returns-clause-facts : goal.returns-clause-facts
returns-clause-facts g c =
    let es = entries c.args.lines.now in
    let w = c.in_ok-log_parts.field-0 in
    let told = c.in_ok-log_parts.broken-is in
    let end = walked w.log_parts.parts es w w.broken c.in_ok-log_parts.ensures.walk (λ i is. c.in_default.not-Some i (cc)) in
    let enough = (rw c.deref-3.ensures.value at c.are_met.ensures).0 c.if-not-are_met.false in
    let met = met_all es (record { heard = c.in_ok-heard.heard; unread = c.in_ok-unread.unread }) end.2 c.in_ok-heard.ensures c.in_ok-unread.ensures enough in
    (met.0, (λ u i. c.in_ok-open.ensures u i ∙ c.in_ok-closed.ensures.outside es (length es) (rw c.deref-2.ensures.value end.1) u i), met.1)
