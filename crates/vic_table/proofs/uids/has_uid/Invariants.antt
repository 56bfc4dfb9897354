use Rattle.vic_table.proofs.Words.{◌≡◌, ◌≤◌, length}
use Rattle.vic_table.specs.Contents.{has_uid}
use Rattle.vic_table.proofs.uids.has_uid.Given as goal

abbrev pub invariant-loop-rest : goal.invariant-loop-rest
invariant-loop-rest l = record {
  same : has_uid l.cell ≡ has_uid l.rest;
  short : length l.rest ≤ length l.cell;
}

abbrev pub decreases-loop-rest : goal.decreases-loop-rest
decreases-loop-rest l = length l.rest
