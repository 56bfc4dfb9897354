-- The UIDs of some parts.
use Rattle.std.specs.Prelude.{◌≡◌, ℕ, ◌≤◌, ◌<◌, ◌&&◌, Bool, true, List}
use Rattle.vic_frame.specs.LowBitsFirst.{mirror}
use Rattle.vic_frame.specs.Uids.{IsUid}
use Rattle.vic_walk.specs.declared.steps.Span.{Span}
use Rattle.vic_walk.specs.Borders.{IsPartOf}
use Rattle.vic_walk.specs.Marked.{is_marked}
use Rattle.vic_walk.specs.Steps.{is_within}

-- the test passes the UIDs of the marked parts of a span, and nothing else
pub record AreUidsOf (bs : List ℕ) (marks : List Bool) (s : Span) (test : ℕ → Bool) : Type 0 where
  pub uids : (u : ℕ) → test u ≡ true → IsUid u
  pub marked : (u p : ℕ) → IsUid u → IsPartOf bs (mirror u) p
      → test u ≡ (is_within s p && is_marked marks p)

-- a UID with a key from `first` on and before `end`
pub record HasKey (first end u : ℕ) : Type 0 where
  pub is_uid : IsUid u
  pub from : first ≤ mirror u
  pub before : mirror u < end
