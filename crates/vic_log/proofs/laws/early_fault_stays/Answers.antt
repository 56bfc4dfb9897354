use Rattle.vic_log.proofs.Early.{early}
use Rattle.vic_log.proofs.laws.early_fault_stays.Goals as goal

pub returns : goal.returns
returns c = λ text more n f h. early text more n f h
