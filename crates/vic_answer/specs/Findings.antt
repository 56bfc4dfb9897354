-- The findings of a report, in the order of the lines of `report`.
use Rattle.std.specs.Prelude.{ℕ, Bool, Option, Some, None, List, [], ◌∷◌, ◌++◌, map, if◌then◌else◌}
use Rattle.vic_report.specs.declared.findings.Unsettled.{Unsettled as LeftToAsk}
use Rattle.vic_report.specs.declared.reporting.LogReport.{LogReport}
use Rattle.vic_report.specs.declared.reporting.LogReport.TheVariants as report
use Rattle.vic_answer.specs.declared.answered.Answered.{Answered}
use Rattle.vic_answer.specs.declared.answered.Answered.TheVariants.{Found, RefusedAt}
use Rattle.vic_answer.specs.declared.findings.Finding.{Finding}
use Rattle.vic_answer.specs.declared.findings.Finding.TheVariants.{Absent, Unlisted, Unsettled, Doubtful, OpenMask, MoreOpenMasks, ConflictLine, SilencedBy}

-- there are more open masks than are listed
abbrev pub more_findings : Bool → List Finding
more_findings more = if more then MoreOpenMasks ∷ [] else []

-- the line that silenced the tag whose reply is a conflict by itself
abbrev pub silenced_findings : Option ℕ → List Finding
silenced_findings None = []
silenced_findings (Some n) = SilencedBy n ∷ []

-- what is left to ask for
abbrev pub unsettled_findings : Option LeftToAsk → List Finding
unsettled_findings None = []
unsettled_findings (Some x) =
    Unsettled x.mask ∷ map OpenMask x.open.masks.items ++ more_findings x.open.more

-- the findings of a report, none if the list is complete
abbrev pub report_findings : LogReport → List Finding
report_findings (report.Impossible c) =
    map ConflictLine c.lines.items ++ silenced_findings c.silenced_by
report_findings (report.NotWhole f) =
    map Absent f.absent.items ++ map Unlisted f.unlisted.items
    ++ unsettled_findings f.unsettled ++ map Doubtful f.doubtful.items
report_findings (report.Complete count) = []

-- the findings in the answer to a text, none if that is refused
abbrev pub findings_of : Answered LogReport → List Finding
findings_of (Found r) = report_findings r
findings_of (RefusedAt n fault) = []
