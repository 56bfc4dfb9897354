-- The text of a log with its slots filled in, in a caller's buffer.
use Rattle.std.specs.Prelude.{◌≡◌, ℕ, List}
use Rattle.vic_answer.specs.declared.status.Status.{Status}
use Rattle.vic_numbers.specs.Buffers.{IsReturned}
use Rattle.vic_answer.specs.SimulateText.{IsSimulationOf}
use Rattle.vic_answer.specs.Status.{status_code}

-- `code` is the status of what `simulate` writes for a text; the text that it writes has `count`
-- bytes, and is returned in the buffer
pub record IsSimulatedInto (text : List ℕ) (code count : ℕ) (room room' : List ℕ) : Type 0 where
  pub answer : List ℕ
  pub status : Status
  pub right : IsSimulationOf text answer status
  pub code_is : code ≡ status_code status
  pub returned : IsReturned answer room room' count
