use Rattle.vic_report.proofs.Words.{IsStrictlyIncreasing, ◌≡◌, ◌∙◌, ◌+◌, ℕ, Some, true, false, false≢true, get_or, arith, eq-eqb, eqb-true, length, length-map, refl, subst, sym, slice_get_read, LogLine, entries, entry_at, hears}
use Rattle.std.specs.Bool.{◌==◌}
use Rattle.vic_report.proofs.NotedLines.{IsHeardBefore, as_noted, both_noted, first_reply, heard_split, heard_within, noted_as}
use Rattle.vic_report.proofs.Telling.{reply_shows}
use Rattle.vic_report.specs.inner.NotedLines.{AreFirstReplies, HasNoted}
use Rattle.vic_verdict.specs.Verdict.{IsHeard}
use Rattle.vic_report.proofs.certain_lines.note_replies.Goals.{in-Some, in_default}
use Rattle.vic_report.proofs.certain_lines.note_replies.Goals as goal

noted_here : (c : goal.Joined-heard) → IsStrictlyIncreasing c.args.uids.now → HasNoted c.args.lines.now c.args.uids.now c.args.noted.now c.match-heard.noted (IsHeardBefore (entries c.args.lines.now) (c.loop-line.line-index + 1))
noted_here c up =
    let lines = c.args.lines.now in
    let us = c.args.uids.now in
    let es = entries lines in
    let i = c.loop-line.line-index in
    let l = c.line-item.result in
    let below = c.loop-line-test.true in
    both_noted lines us c.args.noted.now c.loop-line.noted c.match-heard.noted (IsHeardBefore es i) (λ u. hears (Some l.item) u ≡ true) (IsHeardBefore es (i + 1)) (λ u h. heard_split es i u l.item (entry_at lines i l below c.line-item.is) h)
    (c.loop-line.invariant.noted up)
    (elim c.match-heard.branch [
      | in-Some w ↦
          let own = w.in-Some.uid in
          let told : (u : ℕ) → hears (Some l.item) u ≡ (own == u) = rw c.item.ensures at w.in-Some.ensures.some in
          let shows = reply_shows lines i l own (slice_get_read lines (length lines) i l refl below c.line-item.is) (told own ∙ eq-eqb own own refl) in
          subst (λ new. HasNoted lines us c.loop-line.noted new (λ u. hears (Some l.item) u ≡ true)) (sym w.noted-is)
          (noted_as lines us c.loop-line.noted w.note.new.noted (λ u. u ≡ own) _ (λ u h. sym (eqb-true own u (sym (told u) ∙ h))) (w.note.ensures.noted lines up (rw w.number.ensures shows)))
      | in_default w ↦
          let none : (u : ℕ) → hears (Some l.item) u ≡ false = rw c.item.ensures at w.in_default.ensures.none in
          subst (λ new. HasNoted lines us c.loop-line.noted new (λ u. hears (Some l.item) u ≡ true)) (sym w.noted-is)
          (as_noted lines us c.loop-line.noted _ (λ j lt h. absurd (false≢true (sym (none (get_or us j 0)) ∙ h))))
    ])

first_here : (c : goal.Joined-heard) → IsStrictlyIncreasing c.args.uids.now → AreFirstReplies c.args.lines.now c.args.uids.now c.args.noted.now → AreFirstReplies c.args.lines.now c.args.uids.now c.match-heard.noted
first_here c up blank =
    let lines = c.args.lines.now in
    let us = c.args.uids.now in
    let es = entries lines in
    let i = c.loop-line.line-index in
    let l = c.line-item.result in
    let first = c.loop-line.invariant.first up blank in
    elim c.match-heard.branch [
      | in-Some w ↦
          let own = w.in-Some.uid in
          let told : (u : ℕ) → hears (Some l.item) u ≡ (own == u) = rw c.item.ensures at w.in-Some.ensures.some in
          let there = slice_get_read lines (length lines) i l refl c.loop-line-test.true c.line-item.is in
          subst (AreFirstReplies lines us) (sym w.noted-is)
          (first_reply lines us c.loop-line.noted w.note.new.noted i own l there (told own ∙ eq-eqb own own refl) (c.loop-line.invariant.noted up).more (rw w.number.ensures at (w.note.ensures.only up)) first)
      | in_default w ↦ subst (AreFirstReplies lines us) (sym w.noted-is) first
    ]

pub loop-line-preserved : goal.loop-line-preserved
loop-line-preserved c = record { noted = noted_here c; first = first_here c }

pub returns-clause-first : goal.returns-clause-first
returns-clause-first c = c.loop-line.invariant.first

pub returns-clause-noted : goal.returns-clause-noted
returns-clause-noted c up =
    let lines = c.args.lines.now in
    let es = entries lines in
    let i = c.loop-line.line-index in
    let end = c.loop-line-test.false in
    noted_as lines c.args.uids.now c.args.noted.now c.loop-line.noted (IsHeardBefore es i) (IsHeard es) (λ u h. heard_within es i u (omega (arith, end, length-map lines (λ (l : LogLine). l.item))) h) (c.loop-line.invariant.noted up)
