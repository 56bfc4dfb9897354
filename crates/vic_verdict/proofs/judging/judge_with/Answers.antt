use Rattle.vic_verdict.proofs.Words.{subst, length, IfOk-weaker, entries, listed, Complete, IsVerdict}
use Rattle.vic_verdict.proofs.Verdicts.{complete_whole, all_heard_complete, one_verdict}
use Rattle.vic_verdict.proofs.Versions.{complete_second, complete_third}
use Rattle.vic_verdict.proofs.judging.judge_with.Goals as goal

pub returns : goal.returns
returns g c =
    let lines = c.args.log.now.lines in
    let judged = c.judge_lines.ensures.verdict in
    record {
      verdict = judged;
      whole = IfOk-weaker c.judge_lines.result (IsVerdict lines) _ (λ v h count e. let k = subst (IsVerdict lines) e h in (complete_whole lines count k, k.5)) judged;
      third = IfOk-weaker c.judge_lines.result (IsVerdict lines) _ (λ v h count e. complete_third lines count (subst (IsVerdict lines) e h)) judged;
      second = IfOk-weaker c.judge_lines.result (IsVerdict lines) _ (λ v h count e. complete_second lines count (subst (IsVerdict lines) e h)) judged;
      all_heard = IfOk-weaker c.judge_lines.result (IsVerdict lines) _ (λ v h r. one_verdict lines c.judge_lines.ensures.log.rising v (Complete (length (listed (entries lines)))) h (all_heard_complete lines r)) judged;
    }
