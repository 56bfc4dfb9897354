use Rattle.vic_tree.proofs.counted.counted_left.Goals as goal

pub returns : goal.returns
returns c =
    let told = c.in-Some.ensures in
    record { all = told.0; are_all = told.1; first = c.in_ok-first_left.ensures told.0 told.1; count = told.2.count; uids = told.2.uids }
