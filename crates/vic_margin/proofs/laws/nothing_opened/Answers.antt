use Rattle.vic_margin.proofs.SamePopulations.{deaf_opens_most, same_deaf, same_hidden}
use Rattle.vic_margin.proofs.laws.nothing_opened.Goals as goal

pub returns-clause-hidden : goal.returns-clause-hidden
returns-clause-hidden c = same_hidden

pub returns-clause-deaf : goal.returns-clause-deaf
returns-clause-deaf c = same_deaf

pub returns-clause-both : goal.returns-clause-both
returns-clause-both c = deaf_opens_most
