use Rattle.std.proofs.Common.{[], refl}
use Rattle.vic_log.specs.Order.{entries}
use Rattle.vic_verdict.specs.Possible.{IsPossible}
use Rattle.vic_verdict.proofs.Verdicts.{possible_to}
use Rattle.vic_object.proofs.plain.plain_reading.Goals as goal

pub find_conflict-requires : goal.find_conflict-requires
find_conflict-requires c = rw c.in-Err.is at c.in_ok-facts.ensures.facts

pub returns-in_ok-conflict-in-Err-clause-field : goal.returns-in_ok-conflict-in-Err-clause-field
returns-in_ok-conflict-in-Err-clause-field c =
    let lines = c.args.log.now.lines in
    let told = rw c.in-Err.is at c.in_ok-facts.ensures.facts in
    let never : IsPossible (entries lines) → ⊥ = λ p. told.0 (possible_to lines c.in_ok-facts.ensures.log.rising p c.in-Err.line) in
    let none = c.no_field.ensures in
    record {
      certain = (λ p. absurd (never p), λ n. none.certain);
      all = [];
      are_all = (λ p. absurd (never p), λ n. refl);
      masks = none.masks;
      uids = none.uids;
      asked = rw none.asked refl;
      requests = rw none.asked refl;
    }

pub returns-in_ok-conflict-in-Err-clause-certain_keys : goal.returns-in_ok-conflict-in-Err-clause-certain_keys
returns-in_ok-conflict-in-Err-clause-certain_keys c =
    let told = rw c.in-Err.is at c.in_ok-facts.ensures.facts in
    λ p. told.0 (possible_to c.args.log.now.lines c.in_ok-facts.ensures.log.rising p c.in-Err.line)
