use Rattle.std.proofs.lemmas.List.Filters.{All-dedup, dedup_is}
use Rattle.std.proofs.lemmas.List.Kept.{Contains-dedup_nat}
use Rattle.std.proofs.lemmas.List.Sorted.{All-permutation, Contains-permutation}
use Rattle.std.proofs.lemmas.Map.Keys.{IsStrictlyIncreasing-dedup}
use Rattle.vic_walk.specs.inner.Gathered.{IsBorder}
use Rattle.vic_walk.proofs.ordering.sorted.Goals as goal

pub returns-clause-rising : goal.returns-clause-rising
returns-clause-rising c = rw (dedup_is _ _ _ c.dedup.ensures.filtered) (IsStrictlyIncreasing-dedup _ c.sort_unstable.ensures.sorted)

pub returns-clause-same : goal.returns-clause-same
returns-clause-same c b there = rw (dedup_is _ _ _ c.dedup.ensures.filtered) (Contains-dedup_nat _ b (Contains-permutation _ _ b c.sort_unstable.ensures.permutation there))

pub returns-clause-borders : goal.returns-clause-borders
returns-clause-borders c all = rw (dedup_is _ _ _ c.dedup.ensures.filtered) (All-dedup _ IsBorder _ (All-permutation IsBorder _ _ c.sort_unstable.ensures.permutation all))
