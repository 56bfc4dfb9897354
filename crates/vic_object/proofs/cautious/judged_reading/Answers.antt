use Rattle.vic_log.specs.Order.{entries}
use Rattle.vic_verdict.specs.Possible.{IsPossible}
use Rattle.vic_verdict.proofs.Verdicts.{possible_to}
use Rattle.vic_object.proofs.Measured.{never_settled}
use Rattle.vic_object.proofs.cautious.judged_reading.Goals as goal

pub returns-in-Err : goal.returns-in-Err
returns-in-Err c lines keys =
    let others = c.args.log.now.lines in
    let told = rw c.in-Err.is at c.in_ok-facts.ensures.facts in
    let never : IsPossible (entries others) → ⊥ = λ p. told.0 (possible_to others c.in_ok-facts.ensures.log.rising p c.in-Err.line) in
    record {
      verdict = told;
      holds = c.is_same.ensures;
      weakest = tt;
      settled = never_settled lines (entries others) never;
    }
