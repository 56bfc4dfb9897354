-- Answers that begin with the line of `check`, and which of them with `complete `.
use Rattle.vic_answer.proofs.Words.{◌≡◌, ℕ, List, [], ◌∷◌, ◌++◌, ap, append_assoc, append-nil, arith, refl, subst, sym, ◌∙◌, codes, decimal, Option, Some, None, MatchOption, flat_map, option_map, LogLine, Impossible, Absent, Unlisted, Unsettled, Doubtful, Complete, BeginsAsCheck, IsCommandText, IsCheckOf, HasCompleteList, ForText, check_text, check_status, verdict_line, Status, Entry, IsReport, verdict_by, verdict_of, uids_of, LogReport, ShownUid, finding_text, map, report_begins, none_where_complete, IsPopulationBehind, IsShownByNone, Shows, Verdict, complete_whole, complete_second, complete_third, Answered, Found, RefusedAt, IsAnswered, answer_of, IsVerdict, Explanation, IsExplanation, Margin, get_or}
use Rattle.vic_report.specs.declared.findings.Unsettled.{Unsettled as LeftToAsk}
use Rattle.vic_report.specs.declared.reporting.LogReport.TheVariants as report
use Rattle.vic_answer.specs.declared.findings.Finding.TheVariants as finding
use Rattle.vic_answer.specs.CompleteRun.{BeginWith}
use Rattle.vic_answer.specs.ExplainText as explain
use Rattle.vic_answer.specs.MarginText as margin
use Rattle.vic_answer.specs.Findings.{unsettled_findings}
use Rattle.vic_answer.specs.ReportText as reporting

-- ---- a complete text

pub complete_text : (text : List ℕ) (answer : Answered Verdict) (count : ℕ) → answer ≡ Found (Complete count) → IsAnswered IsVerdict text answer → HasCompleteList text count
complete_text text answer count is right =
    let h = subst (IsAnswered IsVerdict text) is right in
    record {
      log = h.0;
      is_log = h.1;
      whole = complete_whole h.0.lines count h.2;
      second = complete_second h.0.lines count h.2;
      third = complete_third h.0.lines count h.2;
      counted = h.2.5;
    }

-- the verdict in what was found is right, so the answer by it is
pub is_answer : {A : Type 0} (P : List LogLine → A → Type 0) (verdict_of : A → Verdict) → ((lines : List LogLine) (found : A) → P lines found → IsVerdict lines (verdict_of found))
    → (text : List ℕ) (a : Answered A) → IsAnswered P text a → IsAnswered IsVerdict text (answer_of verdict_of a)
is_answer P verdict_of tells text (Found found) h = (h.0, h.1, tells h.0.lines found h.2)
is_answer P verdict_of tells text (RefusedAt n fault) h = h

-- ---- lines that begin with `complete `

-- the answer is `complete`, and what is behind that tells the count
record IsCompleteLine (answer : Answered Verdict) (rest more : List ℕ) : Type 0 where
  pub count : ℕ
  pub answer_is : answer ≡ Found (Complete count)
  pub told : rest ≡ (decimal count ++ codes "\n") ++ more

-- lists that are the same begin with the same number
pub first : {xs ys : List ℕ} → xs ≡ ys → get_or xs 0 0 ≡ get_or ys 0 0
first h = ap (λ zs. get_or zs 0 0) h

complete_line : (answer : Answered Verdict) (rest more : List ℕ) → codes "complete " ++ rest ≡ check_text answer ++ more → IsCompleteLine answer rest more
complete_line (Found (Complete count)) rest more h = record { count = count; answer_is = refl; told = cc h }
complete_line _ rest more h = absurd (omega (arith, first h))

-- the text is complete, and the rest of its answer tells the count
pub record IsCompleteAnswer (text rest : List ℕ) : Type 0 where
  pub count : ℕ
  pub complete : HasCompleteList text count
  pub told : rest ≡ decimal count ++ codes "\n"

-- answers that begin with `complete ` tell so
abbrev pub TellComplete : ForText → Type 0
TellComplete IsAnswerTo = (text rest : List ℕ) (status : Status) → IsAnswerTo text (codes "complete " ++ rest) status → IsCompleteAnswer text rest

-- the same of answers that may have more lines
abbrev pub TellCompleteFirst : ForText → Type 0
TellCompleteFirst IsAnswerTo = (text rest : List ℕ) (status : Status) → IsAnswerTo text (codes "complete " ++ rest) status → BeginWith (IsCompleteAnswer text) rest

-- where nothing is behind the line
alone : (text rest more : List ℕ) (answer : Answered Verdict) → IsAnswered IsVerdict text answer → codes "complete " ++ rest ≡ check_text answer ++ more
    → ((count : ℕ) → answer ≡ Found (Complete count) → more ≡ []) → IsCompleteAnswer text rest
alone text rest more answer right is nothing =
    let l = complete_line answer rest more is in
    record {
      count = l.count;
      complete = complete_text text answer l.count l.answer_is right;
      told = l.told ∙ (ap (λ ms. (decimal l.count ++ codes "\n") ++ ms) (nothing l.count l.answer_is) ∙ append-nil _);
    }

pub check_tells : TellComplete IsCheckOf
check_tells text rest status h = alone text rest [] h.answered h.right (h.written_is ∙ sym (append-nil _)) (λ count is. refl)

-- the answer of `check` is its own
answer_of-same : (a : Answered Verdict) → answer_of (λ v. v) a ≡ a
answer_of-same (Found v) = refl
answer_of-same (RefusedAt n fault) = refl

-- the text of an answer begins as that of `check` if it has the line first
begins_as_check : {A : Type 0} {P : List LogLine → A → Type 0} {verdict_of : A → Verdict} {text_of : Answered A → List ℕ} {text answer : List ℕ} {status : Status}
    (h : IsCommandText P verdict_of text_of text answer status) → IsAnswered IsVerdict text (answer_of verdict_of h.answered) → (more : List ℕ) → text_of h.answered ≡ check_text (answer_of verdict_of h.answered) ++ more → BeginsAsCheck text answer status
begins_as_check {verdict_of = verdict_of} h right more is = record {
  line = check_text (answer_of verdict_of h.answered);
  more = more;
  right = record { answered = answer_of verdict_of h.answered; right = right; written_is = refl; status_is = h.status_is ∙ ap check_status (sym (answer_of-same (answer_of verdict_of h.answered))) };
  written_is = h.written_is ∙ is;
}

-- ---- explain

explained_answer : (text : List ℕ) (e : Answered Explanation) → IsAnswered IsExplanation text e → IsAnswered IsVerdict text (answer_of (λ x. x.verdict) e)
explained_answer = is_answer IsExplanation (λ x. x.verdict) (λ lines x h. h.verdict)

pub explanation_begins : (text answer : List ℕ) (status : Status) → explain.IsExplanationOf text answer status → BeginsAsCheck text answer status
explanation_begins text answer status h = begins_as_check h (explained_answer text h.answered h.right) (explain.population_text (explain.population_of h.answered)) refl

-- no population shows that a list is complete
none_shown : {A : Type 0} (es : List Entry) (items : A → List ℕ) (p : Option A) (v : Verdict) (count : ℕ) → v ≡ Complete count
    → MatchOption p (IsShownByNone v) (λ us. IsPopulationBehind es v (items us)) → explain.population_text (option_map items p) ≡ []
none_shown es items None v count is h = refl
none_shown es items (Some us) v count is h = absurd (subst (λ w. Shows w (items us)) is h.1)

none_behind : (text : List ℕ) (e : Answered Explanation) (count : ℕ) → IsAnswered IsExplanation text e → answer_of (λ x. x.verdict) e ≡ Found (Complete count) → explain.population_text (explain.population_of e) ≡ []
none_behind text (Found x) count h is =
    let verdict_is : x.verdict ≡ Complete count = cc is in
    none_shown _ (λ v. v.items) x.population x.verdict count verdict_is h.2.population
none_behind text (RefusedAt n fault) count h is = cc

pub explanation_tells : TellComplete explain.IsExplanationOf
explanation_tells text rest status h = alone text rest _ (answer_of (λ x. x.verdict) h.answered) (explained_answer text h.answered h.right) h.written_is (λ count is. none_behind text h.answered count h.right is)

-- ---- margin

measured_answer : (text : List ℕ) (m : Answered Margin) → IsAnswered margin.IsMarginOfLines text m → IsAnswered IsVerdict text (answer_of (λ x. x.verdict) m)
measured_answer = is_answer margin.IsMarginOfLines (λ x. x.verdict) (λ lines m h. h.verdict)

pub margin_begins : (text answer : List ℕ) (status : Status) → margin.IsMarginOf text answer status → BeginsAsCheck text answer status
margin_begins text answer status h = begins_as_check h (measured_answer text h.answered h.right) (margin.margin_lines h.answered) refl

pub margin_tells : TellCompleteFirst margin.IsMarginOf
margin_tells text rest status h =
    let l = complete_line (answer_of (λ x. x.verdict) h.answered) rest (margin.margin_lines h.answered) h.written_is in
    let complete = complete_text text _ l.count l.answer_is (measured_answer text h.answered h.right) in
    record { front = decimal l.count ++ codes "\n"; more = margin.margin_lines h.answered; right = record { count = l.count; complete = complete; told = refl }; are = l.told }

-- ---- report

-- a text that begins with a line
record Begins (line text : List ℕ) : Type 0 where
  pub more : List ℕ
  pub is : text ≡ line ++ more

begins : (line more : List ℕ) → Begins line (line ++ more)
begins line more = record { more = more; is = refl }

alone_begins : (line : List ℕ) → Begins line line
alone_begins line = record { more = []; is = sym (append-nil line) }

longer : {line xs : List ℕ} (ys : List ℕ) → Begins line xs → Begins line (xs ++ ys)
longer {line} ys h = record { more = h.more ++ ys; is = ap (λ zs. zs ++ ys) h.is ∙ append_assoc line h.more ys }

-- of findings that aren't all empty the first line is that of the first
findings_begin : (absent unlisted : List ShownUid) (x : Option LeftToAsk) (doubtful : List ℕ) → (absent ≡ [] → unlisted ≡ [] → x ≡ None → doubtful ≡ [] → ⊥)
    → Begins (verdict_line (verdict_by (uids_of absent) (uids_of unlisted) (option_map (λ y. y.mask) x) doubtful))
    (flat_map finding_text (map finding.Absent absent ++ map finding.Unlisted unlisted ++ unsettled_findings x ++ map finding.Doubtful doubtful))
findings_begin (s ∷ absent) unlisted x doubtful some = longer _ (begins (verdict_line (Absent s.uid)) (reporting.by_line s.line))
findings_begin [] (s ∷ unlisted) x doubtful some = longer _ (begins (verdict_line (Unlisted s.uid)) (reporting.by_line s.line))
findings_begin [] [] (Some x) doubtful some = begins (verdict_line (Unsettled x.mask)) _
findings_begin [] [] None (u ∷ doubtful) some = begins (verdict_line (Doubtful u)) _
findings_begin [] [] None [] some = absurd (some refl refl refl refl)

report_begins_so : (lines : List LogLine) (r : LogReport) → IsReport lines r → Begins (verdict_line (verdict_of r)) (reporting.report_text r)
report_begins_so lines (report.Impossible c) h = begins (verdict_line (Impossible c.line)) _
report_begins_so lines (report.NotWhole f) h = findings_begin f.absent.items f.unlisted.items f.unsettled f.doubtful.items (λ a u x d. h.2 (record { absent = a; unlisted = u; unsettled = x; doubtful = d }))
report_begins_so lines (report.Complete count) h = begins (verdict_line (Complete count)) []

reported_begins : (text : List ℕ) (r : Answered LogReport) → IsAnswered IsReport text r → Begins (check_text (answer_of verdict_of r)) (reporting.reported_text r)
reported_begins text (Found r) h = report_begins_so h.0.lines r h.2
reported_begins text (RefusedAt n fault) h = alone_begins _

reported_answer : (text : List ℕ) (r : Answered LogReport) → IsAnswered IsReport text r → IsAnswered IsVerdict text (answer_of verdict_of r)
reported_answer = is_answer IsReport verdict_of report_begins

pub report_begins_as_check : (text answer : List ℕ) (status : Status) → reporting.IsReportOf text answer status → BeginsAsCheck text answer status
report_begins_as_check text answer status h =
    let b = reported_begins text h.answered h.right in
    begins_as_check h (reported_answer text h.answered h.right) b.more b.is

-- the report on a complete text is the line alone
complete_alone : (text : List ℕ) (r : Answered LogReport) (count : ℕ) → IsAnswered IsReport text r → answer_of verdict_of r ≡ Found (Complete count) → reporting.reported_text r ≡ verdict_line (Complete count)
complete_alone text (Found r) count h is =
    let verdict_is : verdict_of r ≡ Complete count = cc is in
    ap reporting.report_text (none_where_complete h.0.lines r count h.2 verdict_is) ∙ append-nil _
complete_alone text (RefusedAt n fault) count h is = cc

pub report_tells : TellComplete reporting.IsReportOf
report_tells text rest status h =
    let b = reported_begins text h.answered h.right in
    let right = reported_answer text h.answered h.right in
    let l = complete_line (answer_of verdict_of h.answered) rest b.more (h.written_is ∙ b.is) in
    let line : codes "complete " ++ rest ≡ verdict_line (Complete l.count) = h.written_is ∙ complete_alone text h.answered l.count h.right l.answer_is in
    record { count = l.count; complete = complete_text text _ l.count l.answer_is right; told = cc line }
