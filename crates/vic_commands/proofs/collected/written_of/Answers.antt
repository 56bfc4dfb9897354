use Rattle.std.proofs.Common.{subst, sym}
use Rattle.vic_result.specs.Answered.{IsAnswerStatus}
use Rattle.vic_commands.proofs.CollectedLaws.{small_code}
use Rattle.vic_commands.proofs.collected.written_of.Goals as goal

pub status_of-status-requires : goal.status_of-status-requires
status_of-status-requires c = small_code c.args.collection.now c.in_ok-written.written.status c.in_ok-written.ensures.status

pub returns-clause-status : goal.returns-clause-status
returns-clause-status c = subst (IsAnswerStatus c.args.collection.now) (sym c.status_of-status.ensures) c.in_ok-written.ensures.status
