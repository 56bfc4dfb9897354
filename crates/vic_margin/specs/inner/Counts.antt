-- The counts of a row.
use Rattle.std.specs.Prelude.{ℕ}
use Rattle.vic_margin.specs.declared.counts.Counts.{Counts}
use Rattle.vic_margin.specs.inner.Trees.{count_in}

-- the count with number p
abbrev pub count_at : Counts → ℕ → ℕ
count_at c p = count_in c.nodes.items c.levels c.leaves p
