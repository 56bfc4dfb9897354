use Rattle.vic_margin.proofs.Words.{◌≡◌, ℕ, ◌<◌, ◌≤◌, length, slice_index}
use Rattle.vic_margin.specs.inner.Opened.{end_before}
use Rattle.vic_margin.proofs.cautious.reopen.Given as goal

abbrev pub invariant-loop-index : goal.invariant-loop-index
invariant-loop-index l = record {
  size : length l.ends.items ≡ length l.initial.ends.items;
  done : (p : ℕ) → p < l.index → slice_index l.ends.items p ≡ end_before l.position (slice_index l.initial.ends.items p);
  left : (p : ℕ) → l.index ≤ p → slice_index l.ends.items p ≡ slice_index l.initial.ends.items p;
}
