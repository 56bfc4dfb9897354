use Rattle.vic_report.proofs.AllFindings.{report_begins, none_where_complete}
use Rattle.vic_report.proofs.laws.first_finding_is_the_verdict.Goals as goal

pub returns : goal.returns
returns c = record { first = report_begins; complete = none_where_complete }
