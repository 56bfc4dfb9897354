-- What is written for a text.
use Rattle.std.proofs.Common.{◌≡◌, ℕ, List, Result, Ok, Err, IfOk, IfErr, inl, subst, sym}
use Rattle.vic_answer.specs.Runs.{ForText}
use Rattle.vic_answer.specs.Status.{fault_text}
use Rattle.vic_answer.specs.declared.status.RunFault.TheVariants.{Write}
use Rattle.vic_answer.specs.declared.status.Status.{Status}
use Rattle.vic_program.specs.Written.{IsCut, IsOut}
use Rattle.vic_program.specs.Ends.{end_of, line_of}
use Rattle.vic_log.specs.declared.sink.Sink.{Ghosts as Sink}
use Rattle.vic_program.specs.Single.{WritesFor}
use Rattle.vic_program.specs.declared.no_answer.NoAnswer.{NoAnswer}

pub written_for : {O : Type 0} (w : Sink O) (W : ForText) (text answer : List ℕ) (status : Status) (o o' : O) (r : Result Status NoAnswer) → W text answer status
    → IfOk r (λ s. s ≡ status) → IfOk r (λ _. IsOut w o o' answer) → IfErr r (λ _. IsCut w o o' answer) → IfErr r (λ why. line_of why ≡ fault_text Write)
    → WritesFor w W text o o' (end_of r)
written_for w W text answer status o o' (Ok s) is same out cut fault = (answer, subst (W text answer) (sym same) is, out)
written_for w W text answer status o o' (Err why) is same out cut fault = inl (record { line_is = fault; answer = answer; status = status; is = is; cut = cut })
