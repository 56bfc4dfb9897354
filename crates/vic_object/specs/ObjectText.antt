-- The object of a log, in JSON.
use Rattle.std.specs.Prelude.{ℕ, ◌==◌, Bool, false, Option, Some, None, List, [], ◌++◌, length, map, take, codes, decimal, if◌then◌else◌}
use Rattle.vic_frame.specs.declared.request.Request.{Request}
use Rattle.vic_log.specs.Lines.{all_but_last, cut, ends_with, lf}
use Rattle.vic_log.specs.Names.{line_fault_name}
use Rattle.vic_log.specs.Writing.{entry_text}
use Rattle.vic_log.specs.declared.entry.Entry.TheVariants.{Sent}
use Rattle.vic_log.specs.declared.fault.LineFault.{LineFault}
use Rattle.vic_verdict.specs.declared.judging.Verdict.{Verdict}
use Rattle.vic_verdict.specs.declared.judging.Verdict.TheVariants.{Impossible, Absent, Unlisted, Unsettled, Doubtful, Complete}
use Rattle.vic_report.specs.Reports.{verdict_of}
use Rattle.vic_report.specs.declared.reporting.LogReport.{LogReport}
use Rattle.vic_report.specs.declared.reporting.LogReport.TheVariants as report
use Rattle.vic_margin.specs.declared.answer.Weakest.{Weakest}
use Rattle.vic_text.specs.Json.{json_bool, json_list, json_mask, json_option, json_uid, mask_members}
use Rattle.vic_answer.specs.CheckText.{check_text}
use Rattle.vic_answer.specs.declared.answered.Answered.{Answered}
use Rattle.vic_answer.specs.declared.answered.Answered.TheVariants.{Found, RefusedAt}
use Rattle.vic_object.specs.Finding.{finding_object}
use Rattle.vic_object.specs.declared.finding.FindingTold.{FindingTold}
use Rattle.vic_object.specs.declared.told.AskedMask.{AskedMask}
use Rattle.vic_object.specs.declared.told.FieldTold.{FieldTold}
use Rattle.vic_object.specs.declared.told.LogTold.{LogTold}
use Rattle.vic_object.specs.declared.told.CautiousReading.{CautiousReading}
use Rattle.vic_object.specs.declared.told.TheConstants.{MOST_CERTAIN}

-- ---- the answer

-- the status of a verdict, its kind, and what it says
abbrev pub verdict_members : Verdict → List ℕ
verdict_members (Complete count) =
    codes "\"status\":0,\"kind\":\"complete\",\"count\":" ++ decimal count
verdict_members (Absent u) = codes "\"status\":1,\"kind\":\"absent\",\"uid\":" ++ json_uid u
verdict_members (Unlisted u) = codes "\"status\":1,\"kind\":\"unlisted\",\"uid\":" ++ json_uid u
verdict_members (Unsettled m) =
    codes "\"status\":1,\"kind\":\"unsettled\"," ++ mask_members m
verdict_members (Doubtful u) = codes "\"status\":1,\"kind\":\"doubtful\",\"uid\":" ++ json_uid u
verdict_members (Impossible n) =
    codes "\"status\":2,\"kind\":\"impossible\",\"line\":" ++ decimal n

-- the same of a refused text
abbrev pub refused_members : ℕ → LineFault → List ℕ
refused_members n fault =
    codes "\"status\":3,\"kind\":\"refused\",\"line\":" ++ decimal n ++ codes ",\"fault\":\""
    ++ line_fault_name fault ++ codes "\""

-- the margin of a complete list, and its weakest mask
abbrev pub weakest_members : Weakest → List ℕ
weakest_members w =
    codes ",\"margin\":" ++ decimal w.margin ++ codes ",\"weakest\":" ++ json_mask w.mask

-- none where the list isn't complete
abbrev pub margin_members : Option Weakest → List ℕ
margin_members None = []
margin_members (Some w) = weakest_members w

-- ---- the cautious readings

-- the answer of a reading where it is another one, and else its margin
abbrev pub reading_answer : CautiousReading → List ℕ
reading_answer r =
    if r.holds then codes "{\"holds\":true" ++ margin_members r.weakest
    else codes "{\"holds\":false," ++ verdict_members r.verdict

-- and whether it settles its field, where that is shown
abbrev pub settled_member : Bool → Bool → List ℕ
settled_member shown settled =
    if shown then codes ",\"settled\":" ++ json_bool settled ++ codes "}" else codes "}"

abbrev pub reading_object : Bool → CautiousReading → List ℕ
reading_object shown r = reading_answer r ++ settled_member shown r.settled

-- that is shown where there are findings, and no UID is open
abbrev pub has_no_open : LogReport → FieldTold → Bool
has_no_open (report.NotWhole f) field = field.masks == 0
has_no_open (report.Impossible c) field = false
has_no_open (report.Complete count) field = false

abbrev pub readings_members : LogTold → List ℕ
readings_members t =
    let shown = has_no_open t.report t.field in
    codes ",\"captured\":" ++ reading_object shown t.hidden
    ++ codes ",\"deaf\":" ++ reading_object shown t.deaf
    ++ margin_members t.weakest

-- ---- the text

-- the line of the answer, how many lines the text has, and whether the last one ends with LF
abbrev pub text_members : List ℕ → Answered Verdict → List ℕ
text_members text answer =
    codes ",\"answer\":\"" ++ all_but_last (check_text answer)
    ++ codes "\",\"lines\":" ++ decimal (length (cut text))
    ++ codes ",\"ended\":" ++ json_bool (ends_with lf text)

-- ---- the findings

-- how many UIDs are absent, unlisted and doubtful
abbrev pub counts_object : ℕ → ℕ → ℕ → List ℕ
counts_object absent unlisted doubtful =
    codes "{\"absent\":" ++ decimal absent ++ codes ",\"unlisted\":" ++ decimal unlisted
    ++ codes ",\"doubtful\":" ++ decimal doubtful ++ codes "}"

-- the same by a report: none of an impossible log or a complete list
abbrev pub found_object : LogReport → List ℕ
found_object (report.NotWhole f) =
    counts_object (length f.absent.items) (length f.unlisted.items) (length f.doubtful.items)
found_object (report.Impossible c) = counts_object 0 0 0
found_object (report.Complete count) = counts_object 0 0 0

abbrev pub findings_members : List FindingTold → LogReport → List ℕ
findings_members findings r =
    codes ",\"findings\":" ++ json_list (map finding_object findings)
    ++ codes ",\"found\":" ++ found_object r

-- ---- the field

-- the line of a request, as a log has it
abbrev pub request_string : Request → List ℕ
request_string q = codes "\"" ++ entry_text (Sent q) ++ codes "\""

-- an open mask with the requests that ask for it
abbrev pub asked_object : AskedMask → List ℕ
asked_object a =
    codes "{" ++ mask_members a.mask ++ codes ",\"ask\":"
    ++ json_list (map request_string a.requests.items) ++ codes "}"

-- how many UIDs are certain, and the first of them
abbrev pub certain_object : List ℕ → List ℕ
certain_object us =
    codes "{\"count\":" ++ decimal (length us) ++ codes ",\"uids\":"
    ++ json_list (map json_uid (take MOST_CERTAIN us)) ++ codes "}"

-- how many masks are open, how many UIDs they have, and the first of them
abbrev pub open_object : FieldTold → List ℕ
open_object f =
    codes "{\"count\":" ++ decimal f.masks ++ codes ",\"uids\":\"" ++ decimal f.uids
    ++ codes "\",\"masks\":" ++ json_list (map asked_object f.asked.items)
    ++ codes "}"

abbrev pub field_members : FieldTold → List ℕ
field_members f =
    codes ",\"certain\":" ++ certain_object f.certain.items
    ++ codes ",\"open\":" ++ open_object f

-- ---- the object

-- the object of a log
abbrev pub told_object : List ℕ → LogTold → List ℕ
told_object text t =
    codes "{\"schema\":2," ++ verdict_members (verdict_of t.report) ++ readings_members t
    ++ text_members text (Found (verdict_of t.report))
    ++ findings_members t.findings.items t.report ++ field_members t.field
    ++ codes ",\"unnoticed\":" ++ json_option json_uid t.unnoticed ++ codes "}\n"

-- a refused text has nothing of these
abbrev pub refused_object : List ℕ → ℕ → LineFault → List ℕ
refused_object text n fault =
    codes "{\"schema\":2," ++ refused_members n fault ++ text_members text (RefusedAt n fault)
    ++ codes ",\"findings\":[],\"found\":" ++ counts_object 0 0 0
    ++ codes ",\"certain\":{\"count\":0,\"uids\":[]}"
    ++ codes ",\"open\":{\"count\":0,\"uids\":\"0\",\"masks\":[]},\"unnoticed\":null}\n"

-- the object of a text, by what its log tells or by its first fault
abbrev pub json_text : List ℕ → Answered LogTold → List ℕ
json_text text (Found t) = told_object text t
json_text text (RefusedAt n fault) = refused_object text n fault
