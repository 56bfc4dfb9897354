use Rattle.vic_log.proofs.Grammar.{reads-spelled, spelled-reads, reads-passed, passed-reads}
use Rattle.vic_log.proofs.laws.read_where_spelled.Goals as goal

pub returns-clause-entry : goal.returns-clause-entry
returns-clause-entry c version line e = (reads-spelled version line e, spelled-reads version line e)

pub returns-clause-passed_over : goal.returns-clause-passed_over
returns-clause-passed_over c version line = (reads-passed version line, passed-reads version line)
