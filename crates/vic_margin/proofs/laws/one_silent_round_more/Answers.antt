use Rattle.vic_margin.proofs.OneMore.{one_more, one_more_log}
use Rattle.vic_margin.proofs.laws.one_silent_round_more.Goals as goal

pub returns-clause-uid : goal.returns-clause-uid
returns-clause-uid c = one_more

pub returns-clause-log : goal.returns-clause-log
returns-clause-log c = one_more_log
