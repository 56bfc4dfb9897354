use Rattle.vic_margin.proofs.Words.{◌≡◌, true, arith, nat_tests, refl, IsPartOf, IsSpanAt, mirror}
use Rattle.vic_walk.proofs.CutLaws.{heard_own}
use Rattle.vic_margin.proofs.Steps.{idle_does_nothing, is_idle, tally_heard, tally_idle, tally_silent}
use Rattle.vic_margin.proofs.tally.Tally.pass.Goals as goal

pub returns-in-Silent : goal.returns-in-Silent
returns-in-Silent c bs es i place h =
    let span : IsSpanAt bs es i c.span.result = rw c.span.ensures (place.step.slot _ place.here (rw c.in-Silent.is refl)) in
    let raised = c.raise.ensures in
    tally_silent bs es i c.span.result _ _ (rw c.in-Silent.is at place.here) span (record { counts = raised.counts; rest = λ p. omega arith; quiet = refl; leaves = raised.room; raised = raised.raised; size = omega arith }) h

pub returns-in-Heard : goal.returns-in-Heard
returns-in-Heard c bs es i place h =
    let r = c.in-Heard.field-0 in
    let k = rw c.in-Heard.is at place.here in
    let span : IsSpanAt bs es i c.span-in-Heard.result = rw c.span-in-Heard.ensures (place.step.slot _ place.here (rw c.in-Heard.is refl)) in
    let it = heard_own bs es i r c.args.step place.step k in
    let own : IsPartOf bs (mirror r.uid) c.own.result = rw c.own.ensures it.1 in
    tally_heard bs es i c.own.result r c.span-in-Heard.result _ _ k place.borders place.cut it.0 own span c.hear.ensures h

idle : (c : goal.In-Garbled) → is_idle c.args.entry.now ≡ true
idle c = grind (arith, nat_tests, c.in-Garbled.is)

pub returns-in-Garbled : goal.returns-in-Garbled
returns-in-Garbled c bs es i place h = tally_idle bs es i c.args.entry.now _ place.here (idle_does_nothing _ (idle c)) h
