use Rattle.vic_margin.proofs.Lowest.{IsPast}
use Rattle.vic_margin.specs.inner.Least.{IsLeastOf, is_free}
use Rattle.vic_margin.proofs.least.least_besides.Given as goal

abbrev pub invariant-loop-key : goal.invariant-loop-key
invariant-loop-key l = record {
  past : IsPast l.keys l.key-index l.from;
  least : IsLeastOf l.margins.parts l.margins.each.items (is_free l.keys l.from) l.least;
}
