use Rattle.vic_report.proofs.KeptLogs.{slot_in_round}
use Rattle.vic_report.proofs.kept_log.KeptLog.push_slot.Goals as goal

pub push-requires-2-clause-in_round : goal.push-requires-2-clause-in_round
push-requires-2-clause-in_round c = rw c.in_ok-push.ensures (slot_in_round c.args.self.now c.args.mask c.args.slot)
