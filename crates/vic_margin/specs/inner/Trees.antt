-- A row of counts as a complete binary tree of numbers.
use Rattle.std.specs.Prelude.{ℕ, zero, suc, ◌+◌, ◌/◌, ◌≤◌, Bool, ◌&&◌, List, nat_le, nat_lt, slice_index}

-- the numbers of node n and of those above it, added up: d of them. Node n is below node n / 2
abbrev pub sum_up : List ℕ → ℕ → ℕ → ℕ
sum_up nodes zero n = 0
sum_up nodes (suc d) n = slice_index nodes n + sum_up nodes d (n / 2)

-- the number is one of those from `from` on and before `to`
abbrev pub within : ℕ → ℕ → ℕ → Bool
within from to n = nat_le from n && nat_lt n to

-- no number is greater
abbrev pub AreAtMost : ℕ → List ℕ → Type 0
AreAtMost k nodes = (n : ℕ) → slice_index nodes n ≤ k

-- the count with number p, of a tree with so many levels whose first leaf is given
abbrev pub count_in : List ℕ → ℕ → ℕ → ℕ → ℕ
count_in nodes levels leaves p = sum_up nodes levels (leaves + p)
