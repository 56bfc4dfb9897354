-- How the end of a run is reported.
use Rattle.std.specs.Prelude.{ℕ, List, codes}
use Rattle.vic_answer.specs.declared.status.Status.{Status}
use Rattle.vic_answer.specs.declared.status.Status.TheVariants.{Whole, NotWhole, Impossible, Refused}
use Rattle.vic_answer.specs.declared.status.RunFault.{RunFault}
use Rattle.vic_answer.specs.declared.status.RunFault.TheVariants.{Read, Write, Memory}

-- the exit status
abbrev pub status_code : Status → ℕ
status_code Whole = 0
status_code NotWhole = 1
status_code Impossible = 2
status_code Refused = 3

-- what standard error says
abbrev pub fault_text : RunFault → List ℕ
fault_text Read = codes "vicinity: read failed"
fault_text Write = codes "vicinity: write failed"
fault_text Memory = codes "vicinity: out of memory"
