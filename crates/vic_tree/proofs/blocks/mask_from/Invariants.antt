use Rattle.vic_tree.proofs.Words.{◌+◌, ◌-◌, ◌≤◌, block_size}
use Rattle.vic_tree.proofs.blocks.mask_from.Given as goal

abbrev pub invariant-loop-len : goal.invariant-loop-len
invariant-loop-len l = record {
  short : l.len ≤ 56;
  fits : block_size l.len ≤ l.fn.range.1 - l.first + 1;
}

abbrev pub decreases-loop-len : goal.decreases-loop-len
decreases-loop-len l = 56 - l.len
