use Rattle.vic_table.proofs.Words.{add-one, sym, ◌∙◌}
use Rattle.vic_table.proofs.PlaceRows.{place_refused, place_taken}
use Rattle.vic_table.proofs.place_rows.line_row.Goals as goal

pub returns-in-Ok-clause-taken : goal.returns-in-Ok-clause-taken
returns-in-Ok-clause-taken c = λ given h.
    let split = rw (c.if-not-branch.false, c.byte.ensures) at c.in_ok-split.ensures in
    let r = rw add-one at (c.in-Ok.ensures given h) in
    place_taken c.args.columns.now given c.args.line.now c.args.before c.split.new.self split (sym c.is_blank_line.ensures ∙ c.if-is_blank_line.false) (sym c.bytes_fault.ensures ∙ c.in_default.is) c.row_of.new.logs c.in-Ok.row r.0 r.1 r.2

pub returns-in-Err-clause-taken : goal.returns-in-Err-clause-taken
returns-in-Err-clause-taken c = λ given h.
    let split = rw (c.if-not-branch.false, c.byte.ensures) at c.in_ok-split.ensures in
    let r = rw add-one at (c.in-Err.ensures given h) in
    place_refused c.args.columns.now given c.args.line.now c.args.before c.split.new.self split (sym c.is_blank_line.ensures ∙ c.if-is_blank_line.false) (sym c.bytes_fault.ensures ∙ c.in_default.is) c.in-Err.fault r
