use Rattle.vic_table.proofs.Sets.{new_uid}
use Rattle.vic_table.proofs.items.note_uid.Goals as goal

pub returns-in_ok-insert-in-Some : goal.returns-in_ok-insert-in-Some
returns-in_ok-insert-in-Some c = λ before h. rw c.in-Some.is (new_uid before c.in-Some.uid c.in_ok-insert-in-Some.field-0 c.args.uids.now c.insert.new.self h c.in_ok-insert-in-Some.ensures.added c.in_ok-insert-in-Some.ensures.updates.0)
