use Rattle.vic_field.proofs.Words.{◌≡◌, suc, ◌≤◌, ◌++◌, [], ◌∷◌, Some, length, take, refl, sym, ap, ◌∙◌, subst, arith, add-one, slice_get, take_all, leb-true, slice_get_read, Entry, MAX_LINES, entries, listed, IsPopulation, line_count, slot_lines, with_entries, entries_next, last_needed, IsSimulation}
use Rattle.vic_field.proofs.Follows.{follows, listed_population, line_count-front}
use Rattle.vic_field.proofs.Listing.{entries_take, entry_at, valid_entry}
use Rattle.vic_field.proofs.Numbering.{entries-with, last_is, numbers_next}
use Rattle.vic_field.proofs.Played.{IsPlayed, IsPlayed-start, IsPlayed-next, line_count-next}
use Rattle.vic_field.proofs.session.simulate.Goals as goal

pub loop-line-init : goal.loop-line-init
loop-line-init c =
    rw c.with_version-filled.ensures record {
      version = c.version.ensures;
      numbers = refl;
      played = IsPlayed-start (listed (entries c.lines-lines.result.now)) c.in_ok-field.field c.in_ok-field.ensures;
    }

-- the entry that comes
here : (c : goal.After-play_entry-arg-1) → slice_get (entries c.lines-lines.result.now) c.loop-line.line-index ≡ Some c.item.result
here c =
    let lines = c.lines-lines.result.now in
    rw c.item.ensures (entry_at lines c.loop-line.line-index c.line-item.result (slice_get_read lines (length lines) c.loop-line.line-index c.line-item.result refl c.loop-line-test.true c.line-item.is))

pub play_entry-requires : goal.play_entry-requires
play_entry-requires c =
    let log = c.lines-lines.ensures.log in
    let lines = c.lines-lines.result.now in
    let i = c.loop-line.line-index in
    let l = c.line-item.result in
    let played = c.loop-line.invariant.played in
    let last = last_is c.loop-line.filled.lines c.loop-line.invariant.numbers in
    let lined = played.count in
    let at : slice_get lines i ≡ Some l = slice_get_read lines (length lines) i l refl c.loop-line-test.true c.line-item.is in
    let counted = line_count-next (entries (take i lines)) l.item in
    let front : line_count (entries (take i lines) ++ l.item ∷ []) ≤ line_count (entries lines) = subst (λ es. line_count es ≤ line_count (entries lines)) (sym (entries_take lines (suc i)) ∙ entries_next lines i l at) (line_count-front (entries lines) (suc i)) in
    let room : last_needed lines ≤ MAX_LINES = leb-true (last_needed lines) MAX_LINES (sym c.fit_filled.ensures ∙ c.if-not-fit_filled.false) in
    record {
      follows = follows (entries lines) (entries c.loop-line.filled.lines) i c.item.result log.order (here c) (rw c.item.ensures (c.in_default.ensures i l c.loop-line-test.true at)) (played.kept ∙ entries_take lines i);
      valid = valid_entry c.item.result (λ q e. log.valid i q (here c ∙ ap (λ (x : Entry). Some x) e));
      first_version = λ v. log.first_version (sym c.loop-line.invariant.version ∙ v) i c.item.result (here c);
      second_version = λ v. log.second_version (sym c.loop-line.invariant.version ∙ v) i c.item.result (here c);
      room = rw c.item.ensures (omega arith);
    }

pub loop-line-preserved : goal.loop-line-preserved
loop-line-preserved c =
    let lines = c.lines-lines.result.now in
    let i = c.loop-line.line-index in
    let l = c.line-item.result in
    let log = c.loop-line.filled in
    let more = l.item ∷ slot_lines c.play_entry.new.field l.item in
    let h = c.loop-line.invariant in
    let at : slice_get lines i ≡ Some l = slice_get_read lines (length lines) i l refl c.loop-line-test.true c.line-item.is in
    let added : c.play_entry.new.filled ≡ with_entries log more = rw (sym c.item.ensures) c.in_ok-play_entry.ensures.added in
    let next : entries (take (suc i) lines) ≡ entries (take i lines) ++ l.item ∷ [] = entries_next lines i l at in
    let pop : IsPopulation (listed (entries lines)) = listed_population (entries lines) c.lines-lines.ensures.log.order c.lines-lines.ensures.log.typed in
    rw (add-one, added, next) record {
      version = h.version;
      numbers = numbers_next log more h.numbers;
      played = subst (λ es. IsPlayed (listed (entries lines)) (entries (take i lines) ++ l.item ∷ []) es c.play_entry.new.field) (sym (entries-with log more))
          (IsPlayed-next (listed (entries lines)) (entries (take i lines)) (entries log.lines) c.loop-line.field c.play_entry.new.field l.item pop
          (c.in_default.ensures i l c.loop-line-test.true at) (rw (sym c.item.ensures) c.in_ok-play_entry.ensures.population) (rw (sym c.item.ensures) c.in_ok-play_entry.ensures.tags) h.played);
    }

pub returns-clause-simulated : goal.returns-clause-simulated
returns-clause-simulated c =
    let lines = c.lines-lines.result.now in
    let i = c.loop-line.line-index in
    let all : take i lines ≡ lines = take_all i lines (omega arith) in
    let played = subst (λ ls. IsPlayed (listed (entries lines)) (entries ls) (entries c.loop-line.filled.lines) c.loop-line.field) all c.loop-line.invariant.played in
    let population = listed_population (entries lines) c.lines-lines.ensures.log.order c.lines-lines.ensures.log.typed in
    subst (λ ls. IsSimulation ls c.loop-line.filled.lines) c.lines-lines.ensures.value (assumption (played, population, c.loop-line.invariant.numbers))
