use Rattle.vic_survey.proofs.ValueWords.{◌≡◌, drop, fault_among}
use Rattle.vic_survey.proofs.fault_names.first_named.Given as goal

abbrev pub invariant-loop-fault : goal.invariant-loop-fault
invariant-loop-fault l = fault_among (drop l.fault-index l.faults) l.name ≡ fault_among l.faults l.name
