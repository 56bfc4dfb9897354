use Rattle.vic_report.proofs.Words.{answers_always, get_or, get_or_default, length, refl, rules, slice_get, slice_get_read, Some, ◌≡◌, FieldCycle, LogLine}
use Rattle.vic_report.proofs.Conflicts.{found_number, no_number}
use Rattle.vic_report.proofs.line_numbers.place_of.Goals as goal

pub returns-in-Ok : goal.returns-in-Ok
returns-in-Ok c =
    let lines = c.args.lines.now in
    let place = c.in-Ok.place in
    let d : LogLine = record { number = 0; item = FieldCycle } in
    let line = get_or lines place d in
    let there : slice_get lines place ≡ Some line = slice_get_read lines (length lines) place line refl c.in-Ok.ensures.bound (get_or_default lines place d line c.in-Ok.ensures.bound) in
    record {
      some = (line, there, found_number lines c.args.number place line (c.in-Ok.ensures.position (λ (l : LogLine). l.number) (answers_always _ _ _ (λ f a s g called. search rules))) there);
      none = tt;
    }

pub returns-in-Err : goal.returns-in-Err
returns-in-Err c = record {
  some = tt;
  none = λ rising i x there number. no_number c.args.lines.now c.args.number c.in-Err.field-0 (c.in-Err.ensures.position (λ (l : LogLine). l.number) (answers_always _ _ _ (λ f a s g called. search rules))) rising i x there number;
}
