-- Trees of bits, and which numbers are open in them.
use Rattle.std.specs.Prelude.{ℕ, ◌+◌, ◌/◌, ◌%◌, ◌==◌, Bool, true, false, max, if◌then◌else◌}
use Rattle.vic_sets.specs.declared.node.Node.{Node, Fork'}
use Rattle.vic_sets.specs.declared.node.Node.TheVariants.{Full, Empty}

-- the number is open; its lowest bit is tested first
abbrev pub open_at : Node → ℕ → Bool
open_at Full u = true
open_at Empty u = false
open_at (Fork' p zero one) u = if u % 2 == 0 then open_at zero (u / 2) else open_at one (u / 2)

-- how many bits are tested at most
abbrev pub height : Node → ℕ
height Full = 0
height Empty = 0
height (Fork' p zero one) = max (height zero) (height one) + 1

-- both are the same leaf
abbrev pub AreOneLeaf : Node → Node → Type 0
AreOneLeaf Full Full = Unit {0}
AreOneLeaf Empty Empty = Unit {0}
AreOneLeaf _ _ = ⊥

-- no fork of two equal leaves
abbrev pub IsReduced : Node → Type 0
IsReduced Full = Unit {0}
IsReduced Empty = Unit {0}
IsReduced (Fork' p zero one) = IsReduced zero × IsReduced one × (¬ AreOneLeaf zero one)

-- the halves of a fork have none, though they may be equal leaves themselves
abbrev pub HasReducedSides : Node → Type 0
HasReducedSides Full = Unit {0}
HasReducedSides Empty = Unit {0}
HasReducedSides (Fork' p zero one) = IsReduced zero × IsReduced one

-- a fork
abbrev pub IsFork : Node → Type 0
IsFork Full = ⊥
IsFork Empty = ⊥
IsFork (Fork' p zero one) = Unit {0}
