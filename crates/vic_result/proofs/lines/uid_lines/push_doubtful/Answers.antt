use Rattle.vic_result.proofs.Words.{◌∙◌, ◌++◌, ap, codes, subst, sym}
use Rattle.vic_text.specs.Digits.{uid_text}
use Rattle.vic_result.specs.ResultLines.{doubtful_lines, ended}
use Rattle.vic_result.specs.inner.FirstLogs.{HasFirstName, name_in}
use Rattle.vic_result.proofs.FindingLines.{lines_next}
use Rattle.vic_result.proofs.lines.uid_lines.push_doubtful.Goals as goal

pub loop-found-preserved : goal.loop-found-preserved
loop-found-preserved c =
    let C = c.args.collection.now in
    let i = c.loop-found.found-index in
    let found = c.found-item.result in
    let logs = c.in_ok-logs.logs in
    let first = subst (HasFirstName C logs) (sym c.found-item.is) (c.in_ok-logs.ensures i found c.loop-found-test.true) in
    let name = c.name_of-name.ensures.value ∙ (ap (λ ss. name_in ss logs found.uid) c.surveys.ensures ∙ first c.name_of-name.ensures.range) in
    let line = c.in_ok-push_uid_line.ensures ∙ ap (λ n. c.loop-found.text.items ++ ended (codes "doubtful " ++ uid_text found.uid ++ codes " in " ++ n)) name in
    lines_next (doubtful_lines C) c.args.text.now.items c.args.doubtful.now i found c.loop-found-test.true c.found-item.is c.loop-found.invariant line
