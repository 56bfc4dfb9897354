use Rattle.vic_walk.proofs.Words.{◌≡◌, ◌∙◌, ◌<◌, ap, arith, nat_tests, sym}
use Rattle.vic_walk.specs.Met.{answers_open}
use Rattle.vic_walk.specs.Needs.{needs, needs_at, needs_of}
use Rattle.vic_walk.specs.Steps.{IsSpanAt}
use Rattle.vic_walk.proofs.Meeting.{met_by, met_only_by, uids_at}
use Rattle.vic_walk.proofs.OpenAnswers.{needing_slot}
use Rattle.vic_walk.proofs.lacking.is_met.Goals as goal

pub returns-else-need-eq0 : goal.returns-else-need-eq0
returns-else-need-eq0 c es n i place open_parts =
    let bs = c.args.parts.now in
    let some : 0 < needs c.args.entry.now = omega (arith, c.if-need-eq0.false, c.needs-need.ensures) in
    let need : needs_at es i ≡ c.needs-need.result = ap needs_of place.here ∙ sym c.needs-need.ensures in
    let span : IsSpanAt bs es i c.span.result = rw c.span.ensures (place.step.slot _ place.here (needing_slot _ some)) in
    let three = c.up_to_three.ensures (answers_open es n i) place.borders (uids_at bs es n i c.span.result c.args.open.now span open_parts) in (
      λ yes. met_by es n i _ three (grind (arith, nat_tests, need, c.len.ensures.value)),
      λ met. let le = met_only_by es n i _ three met in grind (arith, nat_tests, need, c.len.ensures.value),
    )
