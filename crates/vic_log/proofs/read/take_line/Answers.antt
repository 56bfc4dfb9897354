use Rattle.vic_log.proofs.Words.{rules, arith, entries}
use Rattle.vic_log.proofs.Push.{last_from-push}
use Rattle.vic_log.proofs.read.take_line.Goals as goal

pub invariant_of-read-in-Ok : goal.invariant_of-read-in-Ok
invariant_of-read-in-Ok c = record { begin = λ e. absurd (omega arith); above = λ _. rw (c.in-Ok.ensures.added, last_from-push) (omega arith); limit = omega arith }

pub returns-in-Err-push-clause-answer : goal.returns-in-Err-push-clause-answer
returns-in-Err-push-clause-answer c =
    let why = c.refused.ensures (entries c.args.read.now.log.lines) c.in-Ok-Some.entry c.in-Err-push.ensures.answer in search rules
