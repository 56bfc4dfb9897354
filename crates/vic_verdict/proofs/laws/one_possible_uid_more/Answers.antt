use Rattle.vic_verdict.proofs.Words.{Bool, subst, IsPopulation, CouldHaveGiven, slots_of, CouldHaveGiven-slots, insert_if, with_member}
use Rattle.vic_verdict.proofs.Decide.{IsPossibleUid-iff}
use Rattle.vic_verdict.proofs.Populations.{MeetsAll-with_member}
use Rattle.vic_verdict.proofs.laws.one_possible_uid_more.Goals as goal

pub returns : goal.returns
returns c es p u i g may new =
    let w = MeetsAll-with_member p (slots_of es) u i ((CouldHaveGiven-slots p es).0 g) ((IsPossibleUid-iff es u (p, i, g)).0 may) in
    subst (λ (b : Bool). IsPopulation (insert_if b u p) × CouldHaveGiven (insert_if b u p) es) new
    (w.0, (CouldHaveGiven-slots (with_member u p) es).1 w.1)
