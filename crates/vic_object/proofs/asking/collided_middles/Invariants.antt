use Rattle.std.proofs.Common.{◌≡◌, ◌≤◌}
use Rattle.std.specs.List.{list_any}
use Rattle.vic_frame.specs.Masks.{BitMask, IsMask}
use Rattle.vic_log.specs.OpenRounds.{IsCursorAt}
use Rattle.vic_log.specs.Order.{entries}
use Rattle.vic_object.specs.Asking.{collided_within_before}
use Rattle.vic_object.specs.inner.Middles.{is_middle_in}
use Rattle.vic_object.proofs.asking.collided_middles.Given as goal

abbrev pub invariant-loop-line : goal.invariant-loop-line
invariant-loop-line l = record {
  round : IsCursorAt (entries l.lines) l.line-index l.cursor;
  noted : (m : BitMask) → IsMask m → m.len ≤ 56 → list_any (is_middle_in m) l.middles.items ≡ collided_within_before (entries l.lines) l.line-index m;
}
