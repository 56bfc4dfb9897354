use Rattle.std.proofs.Common.{◌≡◌, take}
use Rattle.vic_log.specs.Order.{entries, listed}
use Rattle.vic_operands.specs.Lists.{IsList}
use Rattle.vic_operands.proofs.list.uids_of.Given as goal

abbrev pub invariant-loop-line : goal.invariant-loop-line
invariant-loop-line l = record {
  alone : IsList (take l.line-index l.lines);
  uids : l.uids.items ≡ listed (entries (take l.line-index l.lines));
}
