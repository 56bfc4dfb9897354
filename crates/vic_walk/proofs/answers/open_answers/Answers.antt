use Rattle.vic_walk.proofs.Words.{◌≡◌, arith, length, refl, is_open}
use Rattle.vic_log.specs.Order.{entries}
use Rattle.vic_log.specs.Slots.{slots_of}
use Rattle.vic_walk.proofs.CutLaws.{place_at}
use Rattle.vic_walk.proofs.OpenAnswers.{answering_none, answering_rest}
use Rattle.vic_walk.proofs.Effects.{ready_woken}
use Rattle.vic_walk.proofs.answers.open_answers.Goals as goal

pub loop-index-init : goal.loop-index-init
loop-index-init c =
    let es = entries c.args.lines.now in
    let w = c.wake.ensures in
    record {
      states = ready_woken _ es (is_open (slots_of es)) (length es) 0 c.args.open_parts _ (λ u. refl) w.ready w.room w.quiet c.requires.open;
      found = rw c.new-found.ensures.items (answering_none es);
    }

pub loop-index-preserved : goal.loop-index-preserved
loop-index-preserved c =
    let es = entries c.args.lines.now in
    let l = c.loop-index in
    let place = place_at es c.args.log_parts.now l.index _ c.index.result.now c.requires.parts c.entry-entry.ensures.here (omega (arith, c.loop-index-test.true, c.after_unread-index-end.ensures.within, c.len.ensures)) c.index.ensures in
    record {
      states = c.in_ok-pass_and_note.ensures.states es (is_open (slots_of es)) place l.invariant.states;
      found = c.in_ok-pass_and_note.ensures.found es place l.invariant.states l.invariant.found;
    }

pub returns : goal.returns
returns c =
    let es = entries c.args.lines.now in
    let after = c.after_unread-index-end in
    let end : c.loop-index.index ≡ after.result = omega (arith, c.loop-index-test.false, c.loop-index.auto.index-end) in
    let within = c.requires.parts.within in
    answering_rest es after.result (length es) _ (omega (arith, within, after.ensures.within)) (λ i from below. after.ensures.read i from) (rw end at c.loop-index.invariant.found)

pub after_unread-index-end-requires-clause-list : goal.after_unread-index-end-requires-clause-list
after_unread-index-end-requires-clause-list c i e from = c.requires.parts.list i e (omega (arith, from, c.len.ensures))

pub pass_and_note-requires-clause-step : goal.pass_and_note-requires-clause-step
pass_and_note-requires-clause-step c =
    (place_at (entries c.args.lines.now) c.args.log_parts.now c.loop-index.index _ c.index.result.now c.requires.parts c.entry-entry.ensures.here (omega (arith, c.loop-index-test.true, c.after_unread-index-end.ensures.within, c.len.ensures)) c.index.ensures).step.below
