use Rattle.vic_walk.proofs.Words.{◌≡◌, ◌<◌, ◌∙◌, ap, arith, nat_lt, nat_tests, refl, sym, false, true}
use Rattle.vic_walk.specs.Needs.{needs, needs_of}
use Rattle.vic_walk.specs.Steps.{IsSpanAt}
use Rattle.vic_walk.proofs.OpenAnswers.{answering_here, answering_kept, answering_more, needing_slot}
use Rattle.vic_walk.proofs.answers.pass_and_note.Goals as goal
use Rattle.vic_walk.proofs.answers.pass_and_note.Goals.{then-need-gt0+in_ok-push, else-need-gt0}

pub returns-clause-states : goal.returns-clause-states
returns-clause-states c es set place h = c.in_ok-pass.ensures.states _ es set c.args.at place h

pub returns-clause-found : goal.returns-clause-found
returns-clause-found c es place h found = elim c.if-need-gt0.branch [
  | then-need-gt0+in_ok-push w ↦
      let some : 0 < needs c.args.entry.now = omega (arith, w.if-need-gt0.true, c.needs-need.ensures) in
      let unread : nat_lt 0 (needs c.args.entry.now) ≡ true = grind (arith, nat_tests, some) in
      let span : IsSpanAt c.args.parts.now es c.args.at w.span.result = rw w.span.ensures (place.step.slot _ place.here (needing_slot _ some)) in
      rw w.found-is (answering_more es c.args.at _ _ _ w.in_ok-push.ensures.items (answering_here _ es c.args.at w.span.result c.args.open_parts.now _ refl (rw place.here unread) (ap needs_of place.here ∙ sym c.needs-need.ensures) span h (λ t. w.up_to_three-uids.ensures t place.borders)) found)
  | else-need-gt0 w ↦
      let read : nat_lt 0 (needs c.args.entry.now) ≡ false = grind (arith, nat_tests, w.if-need-gt0.false, c.needs-need.ensures) in
      rw w.found-is (answering_kept es c.args.at _ (rw place.here read) found)
]
