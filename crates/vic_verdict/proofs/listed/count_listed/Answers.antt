use Rattle.vic_verdict.proofs.Words.{length, refl, arith, add-one, length-append, slice_get_read}
use Rattle.vic_verdict.proofs.Listing.{listed_more, number_above}
use Rattle.std.proofs.lemmas.Grind.{common_steps}
use Rattle.vic_walk.proofs.LineLaws.{first_lines}
use Rattle.vic_verdict.proofs.listed.count_listed.Goals as goal

pub overflow_add-count : goal.overflow_add-count
overflow_add-count c =
    let lines = c.lines-lines.result.now in
    let l = c.line-item.result in
    omega (arith, number_above 0 lines c.loop-line.line-index l (first_lines _ lines c.lines-lines.ensures.log).rising (slice_get_read lines (length lines) c.loop-line.line-index l refl c.loop-line-test.true c.line-item.is), c.loop-line.invariant.small, c.count_one-count.ensures.small, c.count_one-count.ensures.number)

pub loop-line-preserved : goal.loop-line-preserved
loop-line-preserved c =
    let lines = c.lines-lines.result.now in
    let i = c.loop-line.line-index in
    let l = c.line-item.result in
    let more = listed_more lines i l (slice_get_read lines (length lines) i l refl c.loop-line-test.true c.line-item.is) in
    record { value = rw (add-one, more, length-append) (omega (arith, c.loop-line.invariant.value, c.count_one-count.ensures.value)); small = omega (arith, c.loop-line.invariant.small, c.count_one-count.ensures.small) }

pub returns : goal.returns
returns c = rw (← c.lines-lines.ensures.value) (grind (arith, common_steps))
