use Rattle.vic_verdict.proofs.Words.{◌≡◌, subst, true, has, ◌↔◌}
use Rattle.vic_log.proofs.Weaker.{weaker_given, weaker_listed}
use Rattle.vic_verdict.proofs.laws.stronger_is_complete.Goals as goal

pub returns-clause-possible : goal.returns-clause-possible
returns-clause-possible c ds es w possible = (possible.0, possible.1, weaker_given ds es w possible.0 possible.2)

pub returns-clause-whole : goal.returns-clause-whole
returns-clause-whole c ds es w possible whole = (possible, λ p population given u. subst (λ us. (has p u ≡ true) ↔ (has us u ≡ true)) (weaker_listed ds es w) (whole.1 p population (weaker_given ds es w p given) u))
