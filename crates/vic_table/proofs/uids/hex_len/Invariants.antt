use Rattle.vic_table.proofs.Words.{◌≡◌, ℕ, ◌<◌, false, get_or}
use Rattle.vic_table.specs.Contents.{is_no_hex_digit}
use Rattle.vic_table.proofs.uids.hex_len.Given as goal

abbrev pub invariant-loop-index : goal.invariant-loop-index
invariant-loop-index l = (k : ℕ) → k < l.index → is_no_hex_digit (get_or l.cell k 0) ≡ false
