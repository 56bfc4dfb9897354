use Rattle.vic_survey.proofs.RunWords.{◌≡◌, ◌∙◌, ◌++◌, ◌∷◌, [], ap, arith, sym, length, length-append, joined, flat_map, survey_lines, text_of, so_far, lines_of, append-nil}
use Rattle.vic_survey.specs.inner.States.{state_of}
use Rattle.vic_survey.proofs.Spelled.{parted_text, parted_no, parted_lacks}
use Rattle.vic_survey.proofs.Runs.{step_more}
use Rattle.vic_survey.proofs.Wrong.{nothing_left, none_there, some_left, first_none, first_some, text_more, reached_more, single_more, first_wrong, ends_early, only_read}
use Rattle.std.specs.Prelude.{List, ℕ}
use Rattle.vic_survey.specs.inner.Steps.{State}
use Rattle.vic_survey.proofs.read.read_surveys.Goals.{then-is_none, else-is_none, else-is_empty-via-then-is_empty+else-is_none-2, else-is_empty-via-else-is_empty}
use Rattle.vic_survey.proofs.read.read_surveys.Goals as goal

pub take_line-requires-clause-room : goal.take_line-requires-clause-room
take_line-requires-clause-room c =
    let r = c.lines.reading in
    omega (arith, c.lines.invariant.counted, c.lines.invariant.number, c.lines.invariant.room, length-append (flat_map survey_lines r.surveys.items) (lines_of r.begun))

pub overflow_add-result : goal.overflow_add-result
overflow_add-result c = omega (arith, c.lines.invariant.room)

pub returns-in-Err-Wrong-clause-refused : goal.returns-in-Err-Wrong-clause-refused
returns-in-Err-Wrong-clause-refused c =
    let inv = c.lines.invariant in
    let p : List ℕ × List ℕ = (c.in-Some.line.now, c.in-Some.more.now) in
    first_wrong c.args.text.now c.lines.rest.now c.in-Some.line.now c.in-Some.more.now (state_of c.lines.reading) c.lines.number
    inv.text (parted_text 10 c.lines.rest.now p c.in-Some.ensures) (parted_no 10 c.lines.rest.now p c.in-Some.ensures) inv.reached inv.single inv.number (rw c.in-Err-Wrong.field-0-is at c.in-Err-Wrong.ensures.taken)

pub overflow_add-number : goal.overflow_add-number
overflow_add-number c = omega (arith, c.lines.invariant.room)

pub lines-smaller : goal.lines-smaller
lines-smaller c =
    let p : List ℕ × List ℕ = (c.in-Some.line.now, c.in-Some.more.now) in
    omega (arith, ap length (parted_text 10 c.lines.rest.now p c.in-Some.ensures), length-append c.in-Some.line.now (10 ∷ c.in-Some.more.now))

pub lines-preserved : goal.lines-preserved
lines-preserved c =
    let inv = c.lines.invariant in
    let p : List ℕ × List ℕ = (c.in-Some.line.now, c.in-Some.more.now) in
    let split = parted_text 10 c.lines.rest.now p c.in-Some.ensures in
    let one = parted_no 10 c.lines.rest.now p c.in-Some.ensures in
    let st = state_of c.lines.reading in
    let next = state_of c.in-Ok.next in
    let more = step_more st c.in-Some.line.now next inv.reached.0 c.in-Ok.ensures.taken in
    record {
      text = text_more c.args.text.now c.lines.rest.now c.in-Some.line.now c.in-Some.more.now (so_far st) (so_far next) inv.text split more.0;
      reached = reached_more st c.in-Some.line.now next inv.reached c.in-Ok.ensures.taken;
      single = single_more st c.in-Some.line.now next inv.reached.0 inv.single one c.in-Ok.ensures.taken;
      number = omega (arith, inv.number, ap length more.0, length-append (so_far st) (c.in-Some.line.now ∷ []));
      first = elim c.if-is_none.branch [
        | then-is_none w ↦ rw w.first-is (first_none c.in-Ok.next.begun c.in-Some.more.now (cc (c.is_none.ensures, w.if-is_none.true)))
        | else-is_none w ↦ rw w.first-is (first_some c.in-Ok.next.begun c.lines.first.now c.lines.rest.now c.in-Some.line.now c.in-Some.more.now (lines_of c.lines.reading.begun) (cc (c.is_none.ensures, w.if-is_none.false)) c.in-Ok.ensures.more inv.first split)
      ];
      room = omega (arith, inv.room, ap length split, length-append c.in-Some.line.now (10 ∷ c.in-Some.more.now));
      counted = c.in-Ok.ensures.counted;
    }

pub overflow_add-result-else-is_empty : goal.overflow_add-result-else-is_empty
overflow_add-result-else-is_empty c = omega (arith, c.lines.invariant.room)

pub returns-then-is_none-2-clause-only : goal.returns-then-is_none-2-clause-only
returns-then-is_none-2-clause-only c = λ ss valid e.
    let inv = c.lines.invariant in
    let st = state_of c.lines.reading in
    let empty : c.lines.rest.now ≡ [] = nothing_left c.lines.rest.now (sym c.is_empty.ensures ∙ c.if-is_empty.true) in
    let text : text_of ss ≡ joined (so_far st) = sym e ∙ inv.text ∙ ap (λ xs. joined (so_far st) ++ xs) empty ∙ append-nil (joined (so_far st)) in
    ap (λ (x : State). x.done) (only_read st ss inv.reached inv.single valid text)

pub returns-else-is_empty-clause-refused : goal.returns-else-is_empty-clause-refused
returns-else-is_empty-clause-refused c =
    let inv = c.lines.invariant in
    ends_early c.args.text.now c.lines.rest.now (state_of c.lines.reading) c.lines.number inv.text (parted_lacks 10 c.lines.rest.now c.in_default.ensures) inv.reached inv.single inv.number (λ empty none.
    elim c.else-is_empty.branch [
      | else-is_empty-via-then-is_empty+else-is_none-2 w ↦ none_there c.lines.reading.begun w.is_none-then-is_empty.result w.is_none-then-is_empty.ensures w.if-is_none-2.false none
      | else-is_empty-via-else-is_empty w ↦ some_left c.lines.rest.now c.is_empty.result c.is_empty.ensures w.if-is_empty.false empty
    ])
