use Rattle.vic_result.proofs.Words.{◌≡◌, ◌&&◌, ℕ, not, take}
use Rattle.vic_frame.specs.Uids.{has}
use Rattle.vic_tree.specs.Ranges.{is_open_in}
use Rattle.vic_result.proofs.lines.first_logs.parted.Given as goal

abbrev pub invariant-loop-uid : goal.invariant-loop-uid
invariant-loop-uid l = record {
  inside : (u : ℕ) → has l.inside.items u ≡ (has (take l.uid-index l.uid-items) u && is_open_in l.set u);
  outside : (u : ℕ) → has l.outside.items u ≡ (has (take l.uid-index l.uid-items) u && not (is_open_in l.set u));
}
