use Rattle.vic_tree.proofs.Words.{ap, sym, ◌∙◌, nat_eq, list_any, list_any-IsPermutation, dedup_is, IsStrictlyIncreasing-dedup}
use Rattle.vic_tree.proofs.GatheringLaws.{has_dedup}
use Rattle.vic_tree.proofs.rising.RisingUids.of.Goals as goal

pub invariant_of-result : goal.invariant_of-result
invariant_of-result c =
    let is = dedup_is _ _ _ c.dedup.ensures.filtered in
    rw is (IsStrictlyIncreasing-dedup _ c.sort_unstable.ensures.sorted)

pub returns-clause-rising : goal.returns-clause-rising
returns-clause-rising c = invariant_of-result c

pub returns-clause-members : goal.returns-clause-members
returns-clause-members c u =
    let is = dedup_is _ _ _ c.dedup.ensures.filtered in
    ap (list_any (nat_eq u)) is ∙ (has_dedup c.sort_unstable.new.self.items u ∙ sym (list_any-IsPermutation (nat_eq u) _ _ c.sort_unstable.ensures.permutation))
