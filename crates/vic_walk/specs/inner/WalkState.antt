-- What a walk over the first entries of a log knows of its parts.
use Rattle.std.specs.Prelude.{◌≡◌, ℕ, List}
use Rattle.vic_frame.specs.Uids.{IsUid}
use Rattle.vic_frame.specs.LowBitsFirst.{mirror}
use Rattle.vic_log.specs.declared.entry.Entry.{Entry}
use Rattle.vic_log.specs.Slots.{slots_before, is_open}
use Rattle.vic_walk.specs.declared.walk_state.WalkState.{WalkState}
use Rattle.vic_walk.specs.Borders.{IsPartOf}
use Rattle.vic_walk.specs.Marked.{is_marked}
use Rattle.vic_walk.specs.Walk.{AreEndsAt, AreStatesAt, was_heard}

-- the walk is before position i: it knows which parts are open, Ready or Quiet, the end of each,
-- and which were heard
pub record IsWalkAt (bs : List ℕ) (es : List Entry) (i : ℕ) (w : WalkState) : Type 0 where
  pub states : AreStatesAt bs es (is_open (slots_before es i)) i w.open
  pub ends : AreEndsAt bs es i w.ends.items
  pub heard : (u p : ℕ) → IsUid u → IsPartOf bs (mirror u) p
      → is_marked w.heard p ≡ was_heard es i u
