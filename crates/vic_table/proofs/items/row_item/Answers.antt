use Rattle.vic_table.proofs.Words.{refl, sym, ap, ◌∙◌}
use Rattle.vic_table.specs.Contents.{spelled_uid}
use Rattle.vic_table.proofs.Rows.{item_fault-shape, row_done}
use Rattle.vic_table.proofs.items.row_item.Goals as goal

pub returns-in-Some-clause-taken : goal.returns-in-Some-clause-taken
returns-in-Some-clause-taken c = λ before h. (refl, item_fault-shape c.args.columns.now before c.args.cells.now c.in-Some.fault (sym c.shape_fault.ensures ∙ c.in-Some.is))

pub returns-clause-taken : goal.returns-clause-taken
returns-clause-taken c = λ before h.
    let uid = c.spelled_uid-uid.ensures ∙ ap spelled_uid c.cell_at.ensures in
    let new = rw c.if-not-branch.false at (c.in_ok-note_uid.ensures before h) in
    row_done c.args.columns.now before c.args.cells.now c.args.line c.args.at.start c.args.at.end _ c.note_uid.new.uids
    (sym c.shape_fault.ensures ∙ c.in_default.is) (sym c.place_or_away_fault.ensures ∙ c.in_default-place_or_away_fault.is) new
    uid c.in_ok-place_at.ensures c.is_word_at.ensures refl refl refl
