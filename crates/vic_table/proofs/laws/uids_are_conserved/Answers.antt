use Rattle.vic_table.proofs.Conserving.{conserved}
use Rattle.vic_table.proofs.laws.uids_are_conserved.Goals as goal

pub returns : goal.returns
returns c = conserved
