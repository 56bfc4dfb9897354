use Rattle.vic_table.proofs.Words.{sym}
use Rattle.vic_table.proofs.Telling.{short_tells_none}
use Rattle.vic_table.proofs.uids.tells_uid.Goals as goal

pub returns-then-cell-lt-UID_DIGITS : goal.returns-then-cell-lt-UID_DIGITS
returns-then-cell-lt-UID_DIGITS c = sym (short_tells_none c.args.cell.now c.if-cell-lt-UID_DIGITS.true)
