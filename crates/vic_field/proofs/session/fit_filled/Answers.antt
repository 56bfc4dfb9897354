use Rattle.vic_field.proofs.Words.{◌≡◌, suc, ◌+◌, ◌≤◌, ℕ, List, Some, length, take, refl, sym, ap, ◌∙◌, subst, add-one, arith, slice_get, lt-leb, slice_get_read, LogLine, MAX_LINES, entries, slots_opened, line_count, entries_next, last_needed}
use Rattle.vic_field.proofs.Follows.{line_count-front}
use Rattle.vic_field.proofs.Listing.{entries_take}
use Rattle.vic_field.proofs.Played.{line_count-next}
use Rattle.vic_field.proofs.session.fit_filled.Goals as goal

-- the last number with one line more
counted : (lines : List LogLine) (i : ℕ) (l : LogLine) → slice_get lines i ≡ Some l → line_count (entries (take (suc i) lines)) ≡ line_count (entries (take i lines)) + suc (slots_opened (Some l.item))
counted lines i l at = ap line_count (entries_next lines i l at) ∙ line_count-next (entries (take i lines)) l.item

pub returns-then-last-gt-MAX_LINES : goal.returns-then-last-gt-MAX_LINES
returns-then-last-gt-MAX_LINES c =
    let lines = c.args.lines.now in
    let i = c.loop-line.line-index in
    let l = c.line-item.result in
    let at : slice_get lines i ≡ Some l = slice_get_read lines (length lines) i l refl c.loop-line-test.true c.line-item.is in
    let next = counted lines i l at in
    let slots = c.slots_opened.ensures.value ∙ ap (λ e. slots_opened (Some e)) c.item.ensures in
    let last = c.loop-line.invariant.last in
    let many = c.if-last-gt-MAX_LINES.true in
    let front : line_count (entries (take (suc i) lines)) ≤ line_count (entries lines) = subst (λ es. line_count es ≤ line_count (entries lines)) (sym (entries_take lines (suc i))) (line_count-front (entries lines) (suc i)) in
    sym (lt-leb (last_needed lines) MAX_LINES (omega arith))

pub loop-line-preserved : goal.loop-line-preserved
loop-line-preserved c =
    let lines = c.args.lines.now in
    let i = c.loop-line.line-index in
    let l = c.line-item.result in
    let at : slice_get lines i ≡ Some l = slice_get_read lines (length lines) i l refl c.loop-line-test.true c.line-item.is in
    let next = counted lines i l at in
    let slots = c.slots_opened.ensures.value ∙ ap (λ e. slots_opened (Some e)) c.item.ensures in
    let last = c.loop-line.invariant.last in
    let few = c.if-last-gt-MAX_LINES.false in
    rw add-one record { last = omega arith; room = omega arith }
