use Rattle.vic_report.proofs.Words.{ap, subst, MatchOption, entries, uids_of, IsLeftOpen, MayBeMissing, IsLeftToAsk, IsListOf, IsAbsent, IsUnlisted, NoSuch}
use Rattle.vic_report.proofs.AllFindings.{none_is_complete}
use Rattle.vic_report.proofs.reporting.report_of_facts.Goals as goal

pub returns : goal.returns
returns c =
    let es = entries c.args.log.now.lines in
    let all = c.in_ok-findings.ensures in
    let none = c.is_empty.ensures.0 c.if-not-is_empty.false in
    none_is_complete c.args.log.now.lines c.count_listed.result c.requires.told.possible
    (subst (IsListOf (IsAbsent es)) (ap uids_of none.absent) all.absent)
    (subst (IsListOf (IsUnlisted es)) (ap uids_of none.unlisted) all.unlisted)
    (subst (λ o. MatchOption o (NoSuch (IsLeftOpen es)) (IsLeftToAsk es)) none.unsettled all.unsettled)
    (subst (IsListOf (MayBeMissing es)) none.doubtful all.doubtful)
    c.count_listed.ensures
