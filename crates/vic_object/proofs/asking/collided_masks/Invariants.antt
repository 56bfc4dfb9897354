use Rattle.std.proofs.Common.{◌≡◌}
use Rattle.vic_frame.specs.Masks.{BitMask}
use Rattle.vic_log.specs.OpenRounds.{IsCursorAt}
use Rattle.vic_log.specs.Order.{entries}
use Rattle.vic_object.specs.Asking.{collided_before}
use Rattle.vic_object.specs.inner.Collided.{has_mask}
use Rattle.vic_object.proofs.asking.collided_masks.Given as goal

abbrev pub invariant-loop-line : goal.invariant-loop-line
invariant-loop-line l = record {
  round : IsCursorAt (entries l.lines) l.line-index l.cursor;
  noted : (m : BitMask) → has_mask l.masks m ≡ collided_before (entries l.lines) l.line-index m;
}
