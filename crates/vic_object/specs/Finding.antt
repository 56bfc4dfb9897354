-- The findings that the object of a log tells, and how they are written.
use Rattle.std.specs.Prelude.{ℕ, Option, Some, None, List, [], ◌∷◌, ◌++◌, codes, decimal, map, take}
use Rattle.vic_report.specs.declared.findings.Findings.{Findings}
use Rattle.vic_report.specs.declared.reporting.LogReport.{LogReport}
use Rattle.vic_report.specs.declared.reporting.LogReport.TheVariants as report
use Rattle.vic_report.specs.declared.shown.ShownUid.{ShownUid}
use Rattle.vic_text.specs.Json.{json_uid}
use Rattle.vic_object.specs.declared.finding.FindingTold.{FindingTold}
use Rattle.vic_object.specs.declared.finding.FindingTold.TheVariants.{SilencedBy, Conflict, Absent, Unlisted, Doubtful}
use Rattle.vic_object.specs.declared.finding.TheConstants.{MOST_TOLD}

-- ---- which they are

-- an absent UID, and in how many slots it was overlooked
abbrev pub absent_of : (ℕ → ℕ) → ShownUid → FindingTold
absent_of margin s = Absent s (margin s.uid)

-- the first findings of each kind
abbrev pub first_findings : (ℕ → ℕ) → Findings → List FindingTold
first_findings margin f =
    map (absent_of margin) (take MOST_TOLD f.absent.items)
    ++ map Unlisted (take MOST_TOLD f.unlisted.items)
    ++ map Doubtful (take MOST_TOLD f.doubtful.items)

-- the line that silenced the tag whose reply is a conflict by itself
abbrev pub silenced_findings : Option ℕ → List FindingTold
silenced_findings None = []
silenced_findings (Some n) = SilencedBy n ∷ []

-- the findings of a report that are told, where each UID was overlooked as often as `margin` says;
-- of a conflict all lines
abbrev pub findings_told : (ℕ → ℕ) → LogReport → List FindingTold
findings_told margin (report.Impossible c) =
    silenced_findings c.silenced_by ++ map Conflict c.lines.items
findings_told margin (report.NotWhole f) = first_findings margin f
findings_told margin (report.Complete count) = []

-- ---- how they are written

-- a UID, and a line that shows what is said of it
abbrev pub shown_members : ShownUid → List ℕ
shown_members s = codes "\"uid\":" ++ json_uid s.uid ++ codes ",\"line\":" ++ decimal s.line

-- the object of a finding
abbrev pub finding_object : FindingTold → List ℕ
finding_object (SilencedBy n) =
    codes "{\"kind\":\"silenced by\",\"line\":" ++ decimal n ++ codes "}"
finding_object (Conflict n) = codes "{\"kind\":\"conflict\",\"line\":" ++ decimal n ++ codes "}"
finding_object (Absent s overlooked) =
    codes "{\"kind\":\"absent\"," ++ shown_members s ++ codes ",\"overlooked\":"
    ++ decimal overlooked ++ codes "}"
finding_object (Unlisted s) = codes "{\"kind\":\"unlisted\"," ++ shown_members s ++ codes "}"
finding_object (Doubtful u) = codes "{\"kind\":\"doubtful\",\"uid\":" ++ json_uid u ++ codes "}"
