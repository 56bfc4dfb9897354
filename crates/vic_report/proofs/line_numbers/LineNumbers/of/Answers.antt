use Rattle.vic_report.proofs.Words.{ap, sym, ◌∙◌, nat_eq, list_any-IsPermutation, list_any, dedup_is, IsStrictlyIncreasing-dedup, has_dedup}
use Rattle.vic_report.proofs.line_numbers.LineNumbers.of.Goals as goal

pub invariant_of-result : goal.invariant_of-result
invariant_of-result c = rw (dedup_is _ _ _ c.dedup.ensures.filtered) (IsStrictlyIncreasing-dedup _ c.sort_unstable.ensures.sorted)

pub returns : goal.returns
returns c u = ap (list_any (nat_eq u)) (dedup_is _ _ _ c.dedup.ensures.filtered) ∙ (has_dedup c.sort_unstable.new.self.items u ∙ sym (list_any-IsPermutation (nat_eq u) _ _ c.sort_unstable.ensures.permutation))
