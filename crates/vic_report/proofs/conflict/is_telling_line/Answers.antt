use Rattle.vic_report.proofs.Words.{◌∙◌, ap, arith, get_or_from_slice_get, slice_get_within, sym, LogLine, tells}
use Rattle.vic_report.proofs.conflict.is_telling_line.Goals as goal

pub bounds-lines-place : goal.bounds-lines-place
bounds-lines-place c = let w = c.in-Some.ensures.some in slice_get_within c.args.lines.now c.in-Some.place w.0 w.1

pub offset_bounds-lines-place : goal.offset_bounds-lines-place
offset_bounds-lines-place c = omega (arith, bounds-lines-place c, c.well_formed)

pub returns-in-Some : goal.returns-in-Some
returns-in-Some c told =
    let lines = c.args.lines.now in
    let w = c.in-Some.ensures.some in
    let read = c.index-lines-place.is ∙ get_or_from_slice_get lines c.in-Some.place w.0 _ w.1 in
    record {
      place = c.in-Some.place;
      line = w.0;
      there = w.1;
      number = w.2;
      slot = ap (λ (l : LogLine). tells l.item) (sym read) ∙ (ap tells (sym c.item.ensures) ∙ (sym c.tells.ensures ∙ told));
    }
