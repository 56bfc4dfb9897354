use Rattle.vic_log.proofs.OpenRounds.{cursor_passed}
use Rattle.vic_log.proofs.rounds.RoundCursor.advance.Goals as goal

pub returns : goal.returns
returns c es i order here at =
    cursor_passed es i c.args.entry.now c.args.self.now (record { round = c.pass_entry.new.round }) order here
    (c.pass_entry.ensures es i at.few_slots here at.open_round)
