use Rattle.vic_log.proofs.Words.{rules, Some}
use Rattle.vic_log.proofs.Told.{appended-more}
use Rattle.vic_log.proofs.sink.write_whole.Goals as goal

pub loop-at-preserved : goal.loop-at-preserved
loop-at-preserved g c =
    let told = appended-more _ _ _ _ _ _ c.loop-at.invariant.2 c.in_ok-at.ensures.bytes in
    let wrote = appended-more (Some _) (Some _) (Some _) _ _ _ c.loop-at.invariant.3 c.in_ok-at.ensures.written in
    search rules
