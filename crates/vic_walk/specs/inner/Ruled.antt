-- Ruling out the parts for which a test holds, those that are open and Ready.
use Rattle.std.specs.Prelude.{◌≡◌, ◌==◌, ℕ, Bool, true, not, ◌&&◌, length, slice_index, if◌then◌else◌}
use Rattle.vic_walk.specs.declared.steps.Span.{Span}
use Rattle.vic_walk.specs.declared.walk_state.WalkState.{WalkState}
use Rattle.vic_walk.specs.Marked.{is_marked}
use Rattle.vic_walk.specs.Steps.{is_within}

-- the part is in the span, and isn't this one
abbrev pub is_other : Span → ℕ → ℕ → Bool
is_other s own p = is_within s p && not (p == own)

-- of the parts for which a test holds, those that are open and Ready are ruled out, with this end
pub record IsRuledOut (old new : WalkState) (out : ℕ → Bool) (end : ℕ) : Type 0 where
  pub ready : (p : ℕ) → is_marked new.open.ready p
      ≡ (is_marked old.open.ready p && not (out p))
  pub ends : (p : ℕ) → slice_index new.ends.items p
      ≡ (if is_marked old.open.ready p && out p then end else slice_index old.ends.items p)
  pub room : length new.open.ready ≡ length old.open.ready
  pub quiet : new.open.quiet.items ≡ old.open.quiet.items

-- one of the parts that are ruled out was heard
abbrev pub LosesHeard : WalkState → (ℕ → Bool) → Type 0
LosesHeard old out =
    (p : ℕ) × (out p ≡ true) × (is_marked old.open.ready p ≡ true)
    × (is_marked old.heard p ≡ true)
