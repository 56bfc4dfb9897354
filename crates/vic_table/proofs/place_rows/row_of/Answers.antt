use Rattle.vic_table.proofs.Words.{sym, ap, ◌∙◌}
use Rattle.vic_table.specs.Contents.{is_blank, trimmed}
use Rattle.vic_table.specs.Values.{PlaceRowValue}
use Rattle.vic_table.proofs.PlaceRows.{place_row_done}
use Rattle.vic_table.proofs.place_rows.row_of.Goals as goal

pub returns : goal.returns
returns c = λ before h.
    let place_is = c.trimmed.ensures ∙ ap trimmed c.cell_at-place.ensures in
    let log_is = c.trimmed-log.ensures ∙ ap trimmed c.cell_at-log.ensures in
    let new = rw (c.if-not-branch.false, log_is) at (c.in_ok-note_log.ensures before h) in
    let row = c.in_ok-new.ensures in
    place_row_done c.args.columns.now before c.args.cells.now c.args.line c.in_ok-new.field-0 c.note_log.new.logs
    (sym c.len.ensures ∙ c.if-len-columns.false)
    (ap is_blank (sym c.cell_at-place.ensures) ∙ (sym c.is_blank.ensures ∙ c.if-is_blank.false))
    (ap is_blank (sym c.cell_at-log.ensures) ∙ (sym c.is_blank-else-is_blank.ensures ∙ c.if-is_blank-2.false))
    new (ap (λ (r : PlaceRowValue). r.line) row) (ap (λ (r : PlaceRowValue). r.place) row ∙ place_is) (ap (λ (r : PlaceRowValue). r.log) row ∙ log_is)
