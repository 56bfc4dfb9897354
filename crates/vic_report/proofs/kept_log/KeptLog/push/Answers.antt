use Rattle.vic_report.proofs.Words.{◌≡◌, ◌+◌, false, length, ap, arith, sym, subst, is_outside_round}
use Rattle.vic_report.proofs.KeptLogs.{numbered_more}
use Rattle.vic_report.proofs.kept_log.KeptLog.push.Goals as goal

pub invariant_of-self-2 : goal.invariant_of-self-2
invariant_of-self-2 c =
    let long : c.len.result ≡ length c.self.inside.lines.items = grind (arith, c.len.ensures) in
    rw (c.in_ok-push.ensures.items, c.new.ensures)
    (numbered_more c.self.inside.lines.items _ c.args.entry c.self.invariant (ap (λ n. n + 1) long) c.requires.valid c.requires.unlisted
    (subst (λ es. is_outside_round es c.args.entry ≡ false) (sym c.self.view_is) c.requires.in_round))
