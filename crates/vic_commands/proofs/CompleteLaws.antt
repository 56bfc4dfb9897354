-- What status 0 of a command about a collection says of its files.
use Rattle.std.proofs.Common.{◌≡◌, ◌≢◌, ◌∙◌, ◌++◌, ℕ, Bool, true, false, if◌then◌else◌, List, [], ◌∷◌, Option, Some, None, ap, arith, flat_map, map, refl, slice_get, subst, sym}
use Rattle.std.specs.List.{AllByRecursion, AllZip, filter}
use Rattle.std.specs.Option.{option_map_or}
use Rattle.std.proofs.lemmas.List.Elements.{recursion_from_All}
use Rattle.vic_answer.specs.declared.status.Status.TheVariants.{Whole}
use Rattle.vic_survey.specs.Surveys.{AreSurveys, SurveyValue}
use Rattle.vic_survey.specs.SurveyText.{text_of}
use Rattle.vic_survey.specs.declared.survey.SurveyedField.{SurveyedField}
use Rattle.vic_survey.specs.declared.survey.SurveyedField.TheVariants.{Refused, Impossible, Possible}
use Rattle.vic_collection.specs.Answers.{IsAnswer}
use Rattle.vic_collection.specs.Collections.{CollectionValue}
use Rattle.vic_collection.specs.Complete.{IsComplete, IsSurveyOf}
use Rattle.vic_collection.specs.declared.answer.CollectionAnswer.{CollectionAnswer}
use Rattle.vic_collection.specs.declared.answer.CollectionAnswer.TheVariants as answer
use Rattle.vic_result.specs.Answered.{answer_status, not_possible_status}
use Rattle.vic_operands.specs.Files.{AreSurveysBy, File, HaveSurveysBy}
use Rattle.vic_operands.specs.Gathered.{AreTogether, IsGathered}
use Rattle.vic_operands.specs.Kinds.{is_list, kind_behind_list, kind_of}
use Rattle.vic_operands.specs.Lists.{AreListAndLogs, IsGatheredBy, IsGatheredToReconcile}
use Rattle.vic_operands.specs.declared.gathered.Gathered.{Gathered}
use Rattle.vic_operands.specs.declared.gathered.Gathered.TheVariants as gathered
use Rattle.vic_operands.specs.declared.kind.Kind.{Kind}
use Rattle.vic_operands.specs.declared.kind.Kind.TheVariants.{Surveys, Log, Table}
use Rattle.vic_commands.specs.Collected.{IsCollected, IsFormOf, IsWrittenBy}
use Rattle.vic_commands.specs.CompleteFiles.{AreComplete, AreCompleteBy, AreCompleteToReconcile, AreCompleteWith, AreLogsBy, HaveLogs, HaveNoSurveys, OfFiles, is_log, texts_of_logs}
use Rattle.vic_commands.specs.declared.collected.Form.{Form}
use Rattle.vic_commands.specs.declared.collected.Form.TheVariants as form

-- ---- only `Complete` has status 0

not_possible : (f : SurveyedField) → 0 ≡ not_possible_status f → ⊥
not_possible (Refused n fault) e = omega (arith, e)
not_possible (Impossible n) e = omega (arith, e)
not_possible (Possible s) e = omega (arith, e)

not_possible_at : (o : Option SurveyValue) → 0 ≡ option_map_or (λ s. not_possible_status s.field) o 3 → ⊥
not_possible_at None e = omega (arith, e)
not_possible_at (Some s) e = not_possible s.field e

complete_of : (c : CollectionValue) (a : CollectionAnswer) → IsAnswer c a → 0 ≡ answer_status c a → (n : ℕ) × IsAnswer c (answer.Complete n)
complete_of c (answer.NotPossible log) is e = absurd (not_possible_at (slice_get c.surveys log) e)
complete_of c (answer.Absent u) is e = absurd (omega (arith, e))
complete_of c (answer.Unlisted u) is e = absurd (omega (arith, e))
complete_of c (answer.Unsettled m) is e = absurd (omega (arith, e))
complete_of c (answer.Doubtful u) is e = absurd (omega (arith, e))
complete_of c (answer.Misplaced u) is e = absurd (omega (arith, e))
complete_of c (answer.Returned u) is e = absurd (omega (arith, e))
complete_of c (answer.NotCounted u) is e = absurd (omega (arith, e))
complete_of c (answer.WithoutLog place) is e = absurd (omega (arith, e))
complete_of c (answer.LeftOver log) is e = absurd (omega (arith, e))
complete_of c (answer.Complete n) is e = (n, is)

-- what is written with status 0 is written of a collection whose answer is `Complete`
record IsWhole (form : Form) (g : Gathered) (text : List ℕ) : Type 0 where
  collection : CollectionValue
  is : g ≡ gathered.Collection collection
  written : IsFormOf form collection text
  count : ℕ
  answer : IsAnswer collection (answer.Complete count)

whole : (form : Form) (g : Gathered) (text : List ℕ) → IsWrittenBy form g text Whole → IsWhole form g text
whole form gathered.Usage text h = absurd h
whole form (gathered.Refused r) text h = absurd (cc h.1)
whole form (gathered.Collection c) text h =
    let n = complete_of c h.1.0 h.1.1 h.1.2 in
    record { collection = c; is = refl; written = h.0; count = n.0; answer = n.1 }

-- ---- files without a text of surveys have the logs that they are

abbrev own_logs : Kind → List ℕ → List (List ℕ)
own_logs Log text = text ∷ []
own_logs Surveys text = []
own_logs Table text = []

are_own : (k : Kind) (text : List ℕ) → k ≢ Surveys → AreLogsBy k text (own_logs k text)
are_own Log text differ = refl
are_own Surveys text differ = absurd (differ refl)
are_own Table text differ = refl

all_own : (kind : List ℕ → Kind) (files : List File) → AllByRecursion (λ f. kind f.text ≢ Surveys) files
    → AllZip (λ f part. AreLogsBy (kind f.text) f.text part) files (map (λ f. own_logs (kind f.text) f.text) files)
all_own kind [] none = tt
all_own kind (f ∷ fs) none = (are_own (kind f.text) f.text none.0, all_own kind fs none.1)

own_first : (k : Kind) (f : File) (fs : List File) (logs : List (List ℕ)) → map (λ (f : File). f.text) fs ≡ logs
    → map (λ (f : File). f.text) (if is_log k then f ∷ fs else fs) ≡ own_logs k f.text ++ logs
own_first Log f fs logs e = ap (λ ls. f.text ∷ ls) e
own_first Surveys f fs logs e = e
own_first Table f fs logs e = e

texts_of_logs-joined : (kind : List ℕ → Kind) (files : List File) → texts_of_logs kind files ≡ flat_map (λ part. part) (map (λ f. own_logs (kind f.text) f.text) files)
texts_of_logs-joined kind [] = refl
texts_of_logs-joined kind (f ∷ fs) = own_first (kind f.text) f (filter (λ f. is_log (kind f.text)) fs) _ (texts_of_logs-joined kind fs)

have_own : (kind : List ℕ → Kind) (files : List File) → HaveNoSurveys kind files → HaveLogs kind files (texts_of_logs kind files)
have_own kind files none = record {
  parts = map (λ f. own_logs (kind f.text) f.text) files;
  each = all_own kind files (recursion_from_All (λ (f : File). kind f.text ≢ Surveys) files none);
  joined = texts_of_logs-joined kind files;
}

-- ---- the surveys of files are those of their logs

AllZip-append : {A B : Type 0} (R : A → B → Type 0) (xs us : List A) (ys vs : List B) → AllZip R xs ys → AllZip R us vs → AllZip R (xs ++ us) (ys ++ vs)
AllZip-append R [] us [] vs h k = k
AllZip-append R [] us (y ∷ ys) vs h k = absurd h
AllZip-append R (x ∷ xs) us [] vs h k = absurd h
AllZip-append R (x ∷ xs) us (y ∷ ys) vs h k = (h.0, AllZip-append R xs us ys vs h.1 k)

-- where different surveys have different texts, and what `Complete` promises is true
module _ (one_text : (ss ts : List SurveyValue) → AreSurveys ss → AreSurveys ts → text_of ss ≡ text_of ts → ss ≡ ts)
    (is_true : (c : CollectionValue) (texts : List (List ℕ)) (count : ℕ) → AllZip IsSurveyOf texts c.surveys → IsAnswer c (answer.Complete count) → IsComplete c texts count) where
  surveys_of : (k : Kind) (f : File) (ss : List SurveyValue) (logs : List (List ℕ)) → AreSurveysBy k f ss → AreLogsBy k f.text logs → AllZip IsSurveyOf logs ss
  surveys_of Surveys f ss logs h are =
      let by = are.2.surveyed in
      let same : by.surveys ≡ ss = one_text by.surveys ss by.written.valid h.0 (sym by.written.text ∙ sym h.1) in
      subst (λ (ts : List SurveyValue). AllZip IsSurveyOf logs ts) same by.are.say
  surveys_of Log f ss logs h are =
      subst (λ (ls : List (List ℕ)). AllZip IsSurveyOf ls ss) (sym are) (subst (λ (ts : List SurveyValue). AllZip IsSurveyOf (f.text ∷ []) ts) (sym h.1) (h.3, tt))
  surveys_of Table f ss logs h are =
      subst (λ (ls : List (List ℕ)). AllZip IsSurveyOf ls ss) (sym are) (subst (λ (ts : List SurveyValue). AllZip IsSurveyOf [] ts) (sym h) tt)

  all_surveys_of : (kind : List ℕ → Kind) (files : List File) (parts : List (List SurveyValue)) (logs : List (List (List ℕ)))
      → AllZip (λ f part. AreSurveysBy (kind f.text) f part) files parts → AllZip (λ f part. AreLogsBy (kind f.text) f.text part) files logs
      → AllZip IsSurveyOf (flat_map (λ part. part) logs) (flat_map (λ part. part) parts)
  all_surveys_of kind [] [] [] h are = tt
  all_surveys_of kind [] [] (l ∷ ls) h are = absurd are
  all_surveys_of kind [] (p ∷ ps) ls h are = absurd h
  all_surveys_of kind (f ∷ fs) [] ls h are = absurd h
  all_surveys_of kind (f ∷ fs) (p ∷ ps) [] h are = absurd are
  all_surveys_of kind (f ∷ fs) (p ∷ ps) (l ∷ ls) h are =
      AllZip-append IsSurveyOf l (flat_map (λ part. part) ls) p (flat_map (λ part. part) ps) (surveys_of (kind f.text) f p l h.0 are.0) (all_surveys_of kind fs ps ls h.1 are.1)

  true_of : (kind : List ℕ → Kind) (files : List File) (c : CollectionValue) (n : ℕ) → HaveSurveysBy kind files c.surveys → IsAnswer c (answer.Complete n)
      → (logs : List (List ℕ)) → HaveLogs kind files logs → IsComplete c logs n
  true_of kind files c n h answer logs are =
      let says : AllZip IsSurveyOf (flat_map (λ part. part) are.parts) (flat_map (λ part. part) h.parts) = all_surveys_of kind files h.parts are.parts h.each are.each in
      is_true c logs n (rw (are.joined, h.joined) says) answer

  complete_by : (Make : List File → CollectionValue → Type 0) (kind : List ℕ → Kind) (files : List File) (form : Form) (g : Gathered) (text : List ℕ) (w : IsWhole form g text)
      → Make files w.collection → HaveSurveysBy kind files w.collection.surveys → AreCompleteBy Make kind files form text
  complete_by Make kind files form g text w made have =
      let of : (logs : List (List ℕ)) → HaveLogs kind files logs → IsComplete w.collection logs w.count = true_of kind files w.collection w.count have w.answer in
      record {
        collection = w.collection;
        made = made;
        written = w.written;
        count = w.count;
        answer = w.answer;
        of_logs = λ none. of (texts_of_logs kind files) (have_own kind files none);
        of_surveys = of;
      }

  -- ---- the commands

  complete : (form : Form) (files : List File) (g : Gathered) (text : List ℕ) → IsWhole form g text → IsGathered files g → AreComplete form text files
  complete form files g text w is =
      let together : AreTogether files w.collection = (subst (IsGathered files) w.is is).1.together in
      complete_by AreTogether kind_of files form g text w together together.surveys

  complete_with : (b : Bool) (first : File) (files : List File) (g : Gathered) (text : List ℕ) → IsWhole form.Lines g text → IsGatheredBy b first files g → AreCompleteWith b text first files
  complete_with true first files g text w is =
      let are : AreListAndLogs first files w.collection = (subst (IsGatheredBy true first files) w.is is).1 in
      complete_by (AreListAndLogs first) kind_behind_list files form.Lines g text w are are.surveys
  complete_with false first files g text w is = complete form.Lines (first ∷ files) g text w is

  complete_to_reconcile : (files : List File) (g : Gathered) (text : List ℕ) → IsWhole form.Lines g text → IsGatheredToReconcile files g → AreCompleteToReconcile text files
  complete_to_reconcile [] g text w is = complete form.Lines [] g text w is
  complete_to_reconcile (first ∷ files) g text w is = complete_with (is_list first.text) first files g text w is

  pub collected : (form : Form) (names texts : List (List ℕ)) (text : List ℕ) → IsCollected IsGathered form names texts text Whole → OfFiles (AreComplete form text) names texts
  collected form names texts text h = (h.files, h.are, complete form h.files h.gathered text (whole form h.gathered text h.written) h.right)

  pub reconciled : (names texts : List (List ℕ)) (text : List ℕ) → IsCollected IsGatheredToReconcile form.Lines names texts text Whole → OfFiles (AreCompleteToReconcile text) names texts
  reconciled names texts text h = (h.files, h.are, complete_to_reconcile h.files h.gathered text (whole form.Lines h.gathered text h.written) h.right)
