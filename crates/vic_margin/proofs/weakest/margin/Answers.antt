use Rattle.vic_verdict.proofs.Verdicts.{possible_to}
use Rattle.vic_verdict.specs.Verdict.{IsVerdict}
use Rattle.vic_verdict.specs.declared.judging.Verdict.TheVariants.{Impossible, Unsettled}
use Rattle.vic_margin.proofs.LawLemmas.{unsettled_weakest}
use Rattle.vic_margin.proofs.weakest.margin.Goals as goal

pub returns-in-Err-clause-weakest : goal.returns-in-Err-clause-weakest
returns-in-Err-clause-weakest c p =
    let impossible : IsVerdict c.args.log.lines (Impossible c.in-Err.line) = rw c.in-Err.is at c.in_ok-facts.ensures.facts in
    impossible.0 (possible_to c.args.log.lines c.in_ok-facts.ensures.log.rising p c.in-Err.line)

pub returns-in-Unsettled-clause-weakest : goal.returns-in-Unsettled-clause-weakest
returns-in-Unsettled-clause-weakest c =
    let v : IsVerdict c.args.log.lines (Unsettled c.in-Unsettled.mask) = rw c.in-Unsettled.is at c.in_ok-verdict-in-Ok.ensures in
    (v.0, unsettled_weakest c.args.log.lines c.in-Unsettled.mask v)
