-- The findings that are left of a report.
use Rattle.std.specs.Prelude.{Option, Some, None, List, [], ◌∷◌, ◌++◌, map}
use Rattle.vic_frame.specs.Masks.{BitMask}
use Rattle.vic_answer.specs.Findings.{more_findings, silenced_findings}
use Rattle.vic_answer.specs.declared.findings.Finding.{Finding}
use Rattle.vic_answer.specs.declared.findings.Finding.TheVariants.{Absent, Unlisted, Unsettled, Doubtful, OpenMask, ConflictLine}
use Rattle.vic_answer.specs.declared.findings.FindingsLeft.{FindingsLeft}

abbrev pub mask_findings : Option BitMask → List Finding
mask_findings None = []
mask_findings (Some m) = Unsettled m ∷ []

abbrev pub findings_left : FindingsLeft → List Finding
findings_left s =
    map ConflictLine s.conflict.now ++ silenced_findings s.silenced_by
    ++ map Absent s.absent.now ++ map Unlisted s.unlisted.now
    ++ mask_findings s.unsettled ++ map OpenMask s.open.now ++ more_findings s.more
    ++ map Doubtful s.doubtful.now
