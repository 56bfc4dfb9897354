use Rattle.vic_table.proofs.Words.{◌≡◌, take, filter}
use Rattle.vic_table.specs.Contents.{is_no_filler}
use Rattle.vic_table.proofs.uids.spelled_uid.Given as goal

abbrev pub invariant-loop-byte : goal.invariant-loop-byte
invariant-loop-byte l = l.digits.items ≡ filter is_no_filler (take l.byte-index l.cell)
