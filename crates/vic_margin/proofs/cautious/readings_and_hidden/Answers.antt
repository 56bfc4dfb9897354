use Rattle.vic_margin.proofs.Words.{◌≡◌, ◌∙◌, ℕ, List, length, slice_index, ap, subst, sym, Entry}
use Rattle.vic_log.proofs.Cautious.{deaf_same}
use Rattle.vic_log.specs.Deaf.{hidden_entries}
use Rattle.vic_log.specs.Order.{entries}
use Rattle.vic_verdict.specs.Possible.{IsPossible}
use Rattle.vic_walk.specs.Walk.{AreEndsAt}
use Rattle.vic_margin.specs.Readings.{IsFirstOpened}
use Rattle.vic_margin.specs.inner.Opened.{IsBehindAnswers, end_before}
use Rattle.vic_margin.proofs.Opened.{ends_all, possible_hidden}
use Rattle.vic_margin.proofs.Reopened.{read_deaf, read_hidden, read_none}
use Rattle.vic_margin.proofs.cautious.readings_and_hidden.Goals as goal

pub returns-then-not-falls_silent-clause-readings : goal.returns-then-not-falls_silent-clause-readings
returns-then-not-falls_silent-clause-readings c = read_none (entries c.args.log.lines) (sym c.has_heard_alone-hides.ensures ∙ c.if-not-hides.true) (sym c.ends_silent-falls_silent.ensures ∙ c.if-not-falls_silent.true)

pub returns-then-not-falls_silent-2-clause-readings : goal.returns-then-not-falls_silent-2-clause-readings
returns-then-not-falls_silent-2-clause-readings c =
    let es : List Entry = entries c.args.log.lines in
    let hs : List Entry = entries c.into_hidden-hidden_log.result.lines in
    let w = c.in_ok-log_parts.field-0 in
    let is : hs ≡ hidden_entries es = c.into_hidden-hidden_log.ensures.items in
    let possible : IsPossible hs = subst IsPossible (sym is) (possible_hidden es c.requires.possible) in
    let walked : AreEndsAt w.log_parts.parts hs (length hs) w.ends.items = ends_all hs w (rw c.of-2.ensures.value at c.in_ok-log_parts.ensures) possible in
    let ends : AreEndsAt w.log_parts.parts hs (length hs) c.deref.result.now = rw c.deref.ensures.value walked in
    let hidden : IsFirstOpened (hidden_entries es) es c.in_ok-hidden.hidden = read_hidden es hs w.log_parts.parts c.deref.result.now c.args.ranges.now c.in_ok-hidden.hidden c.has_heard_alone-hides.result c.requires.possible c.requires.«open» is c.has_heard_alone-hides.ensures ends c.in_ok-hidden.ensures in
    let loud = sym c.ends_silent-falls_silent.ensures ∙ c.if-not-falls_silent-2.true in
    record { hidden = hidden; deaf = subst (λ ds. IsFirstOpened ds es c.in_ok-hidden.hidden) (sym (deaf_same es loud)) hidden }

pub returns-clause-readings : goal.returns-clause-readings
returns-clause-readings c =
    let es : List Entry = entries c.args.log.lines in
    let hs : List Entry = entries c.into_hidden-hidden_log.result.lines in
    let w = c.in_ok-log_parts.field-0 in
    let is : hs ≡ hidden_entries es = c.into_hidden-hidden_log.ensures.items in
    let possible : IsPossible hs = subst IsPossible (sym is) (possible_hidden es c.requires.possible) in
    let walked : AreEndsAt w.log_parts.parts hs (length hs) w.ends.items = ends_all hs w (rw c.of-2.ensures.value at c.in_ok-log_parts.ensures) possible in
    let ends : AreEndsAt w.log_parts.parts hs (length hs) c.deref.result.now = rw c.deref.ensures.value walked in
    let before : w.ends.items ≡ c.deref.result.now = sym c.deref.ensures.value in
    let after : c.deref-2.result.now ≡ c.reopen.new.ends.items = c.deref-2.ensures.value in
    let size : length c.deref-2.result.now ≡ length c.deref.result.now = ap length after ∙ (c.reopen.ensures.size ∙ ap length before) in
    let each : (p : ℕ) → slice_index c.deref-2.result.now p ≡ end_before c.behind_answers-answered.result (slice_index c.deref.result.now p) = λ p. ap (λ xs. slice_index xs p) after ∙ (c.reopen.ensures.each p ∙ ap (λ xs. end_before c.behind_answers-answered.result (slice_index xs p)) before) in
    let behind : IsBehindAnswers es c.behind_answers-answered.result = rw c.of.ensures.value at c.behind_answers-answered.ensures in
    record {
      hidden = read_hidden es hs w.log_parts.parts c.deref.result.now c.args.ranges.now c.in_ok-hidden.hidden c.has_heard_alone-hides.result c.requires.possible c.requires.«open» is c.has_heard_alone-hides.ensures ends c.in_ok-hidden.ensures;
      deaf = read_deaf es hs w.log_parts.parts c.deref.result.now c.deref-2.result.now c.behind_answers-answered.result c.args.ranges.now c.in_ok-deaf.deaf c.requires.possible c.requires.«open» is behind ends size each c.in_ok-deaf.ensures;
    }
