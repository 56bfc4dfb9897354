-- Blocks of keys.
use Rattle.std.specs.Prelude.{ℕ, Bool, false, Option, Some, None}
use Rattle.vic_frame.specs.LowBitsFirst.{is_in_block}
use Rattle.vic_frame.specs.declared.low_bits_first.KeyBlock.{KeyBlock}

-- the key is in the block, if there is one
abbrev pub is_in_some_block : Option KeyBlock → ℕ → Bool
is_in_some_block (Some b) k = is_in_block b.first b.len k
is_in_some_block None k = false
