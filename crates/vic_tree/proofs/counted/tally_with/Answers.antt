use Rattle.vic_tree.proofs.Words.{ℕ, ◌-◌, ◌^◌, ◌∙◌, ap}
use Rattle.vic_tree.proofs.TallyLaws.{found_tallied, nothing_tallied}
use Rattle.vic_tree.proofs.counted.tally_with.Goals as goal

pub returns-in-Some : goal.returns-in-Some
returns-in-Some c = rw c.in-Some.is (found_tallied c.in-Some.mask c.args.before c.tally_more.result c.size_of_block.result (c.size_of_block.ensures.value ∙ ap (λ (l : ℕ). 2 ^ (56 - l)) c.len.ensures.value) c.tally_more.ensures.count c.tally_more.ensures.uids)

pub returns-in-None : goal.returns-in-None
returns-in-None c = rw c.in-None.is (nothing_tallied c.args.before)
