use Rattle.vic_answer.proofs.Words.{ℕ, List, refl, Answered, IsSimulationOf, simulated_text, simulated_status}
use Rattle.vic_answer.specs.SimulateText.{IsSimulatedText}
use Rattle.vic_answer.specs.declared.simulate.Simulated.{Simulated}
use Rattle.vic_answer.proofs.Standing.{ends_written}
use Rattle.vic_answer.proofs.simulate.run_simulate.Goals as goal

right : (s : Answered Simulated) (text : List ℕ) → IsSimulatedText text s → IsSimulationOf text (simulated_text s) (simulated_status s)
right s text h = record { simulated = s; right = h; written_is = refl; status_is = refl }

pub returns-clause-answer : goal.returns-clause-answer
returns-clause-answer g c = ends_written IsSimulationOf _ c.in_ok-read.read c.in_ok-read.ensures.reading (λ text h. right c.in_ok-simulated.simulated text (c.in_ok-simulated.ensures text h)) _ c.write_simulated.ensures.status c.write_simulated.ensures.written.accepts c.write_simulated.ensures.written.fault

pub returns-clause-answer_revealed : goal.returns-clause-answer_revealed
returns-clause-answer_revealed g c = ends_written IsSimulationOf _ c.in_ok-read.read c.in_ok-read.ensures.reading_revealed (λ text h. right c.in_ok-simulated.simulated text (c.in_ok-simulated.ensures text h)) _ c.write_simulated.ensures.status c.write_simulated.ensures.written.accepts_revealed c.write_simulated.ensures.written.fault
