use Rattle.std.proofs.lemmas.Result.{IfOk-weaker}
use Rattle.vic_report.proofs.Words.{arith, refl, FieldCycle, Sent, StayQuiet}
use Rattle.vic_report.proofs.KeptLogs.{entry_passed, length-with_slot, slot_passed}
use Rattle.vic_report.specs.declared.kept_log.TheConstants.{LINK}
use Rattle.vic_report.proofs.kept_log.KeptLog.pass.Goals as goal

pub returns-in-StayQuiet-clause-kept : goal.returns-in-StayQuiet-clause-kept
returns-in-StayQuiet-clause-kept c =
    entry_passed c.push.result c.args.mask c.args.is_kept c.args.entry.now (Sent (StayQuiet LINK c.in-StayQuiet.uid)) _ _ (λ us. tt) (λ u b. rw (c.in-Sent.is, c.in-StayQuiet.is) refl) c.push.ensures

pub returns-in-FieldCycle-clause-kept : goal.returns-in-FieldCycle-clause-kept
returns-in-FieldCycle-clause-kept c =
    entry_passed c.push-in-FieldCycle.result c.args.mask c.args.is_kept c.args.entry.now FieldCycle _ _ (λ us. tt) (λ u b. rw c.in-FieldCycle.is refl) c.push-in-FieldCycle.ensures

pub returns-in-Some : goal.returns-in-Some
returns-in-Some c = record {
  limit = IfOk-weaker c.push_slot.result _ _ (λ v added. rw added (omega (arith, length-with_slot c.args.self.now c.in-Some.mask c.args.entry.now))) c.push_slot.ensures;
  kept = slot_passed c.push_slot.result c.args.mask c.in-Some.mask c.args.is_kept c.args.entry.now _ _ c.in-Some.is c.if-is_kept.true c.push_slot.ensures;
}
