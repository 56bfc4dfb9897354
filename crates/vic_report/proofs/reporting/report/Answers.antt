use Rattle.vic_report.proofs.reporting.report.Goals as goal

pub find_conflict-requires : goal.find_conflict-requires
find_conflict-requires c = rw c.in-Err.is at c.in_ok-facts.ensures.facts
