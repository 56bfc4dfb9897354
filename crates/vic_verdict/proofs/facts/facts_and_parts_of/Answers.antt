use Rattle.vic_verdict.proofs.Words.{ap, length, sym, subst, arith, refl, entries, length-map, LogLine, IsVerdict, IsFirstImpossible, Impossible, slice_get_read}
use Rattle.vic_verdict.proofs.Verdicts.{first_line}
use Rattle.vic_verdict.proofs.facts.facts_and_parts_of.Goals as goal

pub bounds-lines-at : goal.bounds-lines-at
bounds-lines-at g c =
    let lines = c.args.log.now.lines in
    let first : IsFirstImpossible (entries lines) c.in-Err.at = rw (c.in-Err.is, c.of.ensures.value) at c.in_ok-open.ensures.facts in
    omega (arith, first.within, length-map lines (λ (l : LogLine). l.item), ap length c.lines.ensures.value)

pub returns-in-Err-clause-facts : goal.returns-in-Err-clause-facts
returns-in-Err-clause-facts g c =
    let lines = c.args.log.now.lines in
    let first : IsFirstImpossible (entries lines) c.in-Err.at = rw (c.in-Err.is, c.of.ensures.value) at c.in_ok-open.ensures.facts in
    let short = first.within in
    subst (λ n. IsVerdict lines (Impossible n)) (sym c.number.ensures)
    (first_line lines c.in-Err.at c.index-lines-at.result c.of.ensures.log.rising (slice_get_read lines (length lines) c.in-Err.at c.index-lines-at.result refl (omega (arith, short, length-map lines (λ (l : LogLine). l.item))) (rw c.lines.ensures.value at c.index-lines-at.is)) first)

pub returns-in_ok-certain-in-Ok-clause-facts : goal.returns-in_ok-certain-in-Ok-clause-facts
returns-in_ok-certain-in-Ok-clause-facts g c =
    let told = rw (c.in-Ok.is, c.of.ensures.value) at c.in_ok-open.ensures.facts in
    record {
      told = record { possible = told.0; uids_open = told.1; forced = c.in_ok-certain-in-Ok.ensures (entries c.args.log.now.lines) told.2 };
      is_met = told.2;
    }
