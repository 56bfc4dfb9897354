-- The states of the reader.
use Rattle.std.specs.Prelude.{◌≡◌, ⊤, Option, Some, None, Result, Ok, Err}
use Rattle.vic_survey.specs.declared.begun.StepFault.{StepFault}
use Rattle.vic_survey.specs.declared.begun.StepFault.TheVariants.{Wrong, Memory}
use Rattle.vic_survey.specs.declared.read.ReadSoFar.{ReadSoFar}
use Rattle.vic_survey.specs.inner.Steps.{State}

abbrev pub state_of : ReadSoFar → State
state_of r = record { done = r.surveys.items; begun = r.begun }

-- what a call returned is the state that is read, unless memory was refused
abbrev pub GivesState : Result ReadSoFar StepFault → Option State → Type 0
GivesState (Ok r) read = read ≡ Some (state_of r)
GivesState (Err Wrong) read = read ≡ None
GivesState (Err Memory) read = ⊤
