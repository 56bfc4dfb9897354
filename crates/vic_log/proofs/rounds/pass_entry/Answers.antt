use Rattle.vic_log.proofs.Words.{◌≡◌, ◌+◌, ◌≤◌, Option, Some, sym, subst, rules, IfSome, OpenRound, round_at}
use Rattle.vic_log.proofs.OpenRounds.{round_passed}
use Rattle.vic_log.proofs.rounds.pass_entry.Goals as goal

pub returns-in-Some : goal.returns-in-Some
returns-in-Some c es i few k r =
    let round = c.in-Some.round in
    let small : round.next ≤ 16 = subst (λ (o : Option OpenRound). IfSome o (λ x. x.next ≤ 16)) c.in-Some.is few in
    subst (λ (x : OpenRound). Some x ≡ round_at es (i + 1)) (sym (c.pass_slot.ensures small))
    (round_passed es i c.args.entry.now c.args.round.now (Some (record { request = round.request; next = round.next + 1 })) (search rules) k r)
