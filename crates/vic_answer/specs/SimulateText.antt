-- What `simulate` writes for a text: the text of the log with its slots filled in, or the line of a
-- refusal.
use Rattle.std.specs.Prelude.{◌≡◌, ℕ, ◌+◌, ◌<◌, List, codes}
use Rattle.vic_log.specs.declared.entry.TheConstants.{MAX_LINES}
use Rattle.vic_log.specs.declared.fault.LineFault.TheVariants.{TooManyLines as ManyLines}
use Rattle.vic_log.specs.Log.{LogValue, IsLog}
use Rattle.vic_log.specs.Writing.{text_of}
use Rattle.vic_field.specs.Simulation.{IsSimulation, HasNoSlots, IsFirstSlot, last_needed}
use Rattle.vic_answer.specs.Answered.{HasLog, IsRefusedAt}
use Rattle.vic_answer.specs.declared.answered.Answered.{Answered}
use Rattle.vic_answer.specs.declared.answered.Answered.TheVariants.{Found, RefusedAt}
use Rattle.vic_answer.specs.Refusals.{refused_at, refusal_line}
use Rattle.vic_answer.specs.declared.status.Status.{Status}
use Rattle.vic_answer.specs.declared.status.Status.TheVariants.{Whole, Refused}
use Rattle.vic_answer.specs.declared.simulate.Simulated.{Simulated}
use Rattle.vic_answer.specs.declared.simulate.Simulated.TheVariants.{Filled, OutcomeGiven, TooManyLines}

-- what becomes of a log: it has its slots filled in, and is of the same version; or why they can't
-- be: it has a slot line already, or it has none and would need more lines than a log may have
abbrev pub IsSimulated : LogValue → Simulated → Type 0
IsSimulated given (Filled log) =
    IsSimulation given.lines log.lines
    × (log.version ≡ given.version) × IsLog log.version log.lines
IsSimulated given (OutcomeGiven n) = IsFirstSlot given.lines n
IsSimulated given TooManyLines = HasNoSlots given.lines × (MAX_LINES < last_needed given.lines)

-- what becomes of the log of a text; or its first fault
abbrev pub IsSimulatedText : List ℕ → Answered Simulated → Type 0
IsSimulatedText text (Found simulated) =
    (given : LogValue) × HasLog text given × IsSimulated given simulated
IsSimulatedText text (RefusedAt n fault) = IsRefusedAt text n fault

-- what is written: the log, or the line of a refusal
abbrev pub simulated_text : Answered Simulated → List ℕ
simulated_text (Found (Filled log)) = text_of log
simulated_text (Found (OutcomeGiven n)) = refused_at n (codes "OutcomeGiven")
simulated_text (Found TooManyLines) = refusal_line (MAX_LINES + 1) ManyLines
simulated_text (RefusedAt n fault) = refusal_line n fault

-- the status with which `simulate` ends
abbrev pub simulated_status : Answered Simulated → Status
simulated_status (Found (Filled log)) = Whole
simulated_status simulated = Refused

-- what `simulate` writes for a text, and its status
pub record IsSimulationOf (text written : List ℕ) (status : Status) : Type 0 where
  pub simulated : Answered Simulated
  pub right : IsSimulatedText text simulated
  pub written_is : written ≡ simulated_text simulated
  pub status_is : status ≡ simulated_status simulated
