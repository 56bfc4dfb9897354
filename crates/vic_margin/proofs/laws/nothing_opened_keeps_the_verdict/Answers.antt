use Rattle.vic_margin.proofs.SameVerdict.{verdict_deaf, verdict_hidden}
use Rattle.vic_margin.proofs.laws.nothing_opened_keeps_the_verdict.Goals as goal

pub returns-clause-hidden : goal.returns-clause-hidden
returns-clause-hidden c = verdict_hidden

pub returns-clause-deaf : goal.returns-clause-deaf
returns-clause-deaf c = verdict_deaf
