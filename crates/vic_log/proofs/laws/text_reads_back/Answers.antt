use Rattle.vic_log.proofs.Words.{entries}
use Rattle.vic_log.proofs.Push.{IsLog-long}
use Rattle.vic_log.proofs.Written.{text_of-reads}
use Rattle.vic_log.proofs.Spelled.{spelled_all}
use Rattle.vic_log.proofs.laws.text_reads_back.Goals as goal

pub returns : goal.returns
returns c = λ log g.
    let es = entries log.lines in
    text_of-reads log.version es g.order (spelled_all log.version es g.typed g.valid g.first_version g.second_version) (IsLog-long _ log.lines g)
