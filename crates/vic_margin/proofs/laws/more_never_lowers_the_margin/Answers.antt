use Rattle.vic_margin.proofs.More.{listed_margin, more_entries, more_listed, more_margin}
use Rattle.vic_margin.proofs.laws.more_never_lowers_the_margin.Goals as goal

pub returns-clause-uid : goal.returns-clause-uid
returns-clause-uid c = more_margin

pub returns-clause-uid_listed : goal.returns-clause-uid_listed
returns-clause-uid_listed c = listed_margin

pub returns-clause-entries : goal.returns-clause-entries
returns-clause-entries c = more_entries

pub returns-clause-listed : goal.returns-clause-listed
returns-clause-listed c = more_listed
