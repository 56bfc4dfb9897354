use Rattle.vic_table.proofs.Words.{◌≡◌, arith, common_steps}
use Rattle.vic_table.proofs.Sets.{new_log}
use Rattle.vic_table.proofs.place_rows.note_log.Goals as goal

pub returns : goal.returns
returns c = λ before h.
    let key = c.in_ok-to_vec.field-0 in
    let items : key.items ≡ c.args.log.now = grind (arith, common_steps) in
    new_log before c.args.log.now key c.in_ok-insert.field-0 c.args.logs.now c.insert.new.self h items c.in_ok-insert.ensures.added c.in_ok-insert.ensures.updates.0
