-- What is written for surveys.
use Rattle.std.proofs.Common.{◌≡◌, ◌∙◌, ◌++◌, ◌<◌, ℕ, List, [], ◌∷◌, All, ap, flat_map, length, subst, sym, append-nil, arith}
use Rattle.std.proofs.lemmas.List.{map-append}
use Rattle.std.proofs.lemmas.List.Elements.{All-contains, All-push, All-take, Contains-push}
use Rattle.std.proofs.lemmas.Grind.{flat_map-append}
use Rattle.std.proofs.Math.Seq.{take-append_seam}
use Rattle.std.proofs.lemmas.Slice.Zip.{all_zipped_more}
use Rattle.std.specs.List.{AllZip}
use Rattle.vic_log.specs.Writing.{joined}
use Rattle.vic_survey.proofs.Joined.{joined-append}
use Rattle.vic_survey.specs.Making.{IsFieldOf}
use Rattle.vic_survey.specs.Names.{IsName}
use Rattle.vic_survey.specs.SurveyText.{survey_lines, text_of}
use Rattle.vic_survey.specs.Surveys.{IsSurvey, SurveyValue}
use Rattle.vic_answer.specs.declared.status.Status.{Status}
use Rattle.vic_commands.specs.Surveyed.{AreSurveyed, AreWrittenAs, IsSurveyRun, status_of}

-- the text of one survey more
text_of-more : (ss : List SurveyValue) (s : SurveyValue) → text_of (ss ++ s ∷ []) ≡ text_of ss ++ joined (survey_lines s)
text_of-more ss s =
    ap joined (flat_map-append survey_lines ss (s ∷ []) ∙ ap (λ ls. flat_map survey_lines ss ++ ls) (append-nil (survey_lines s))) ∙ joined-append (flat_map survey_lines ss) (survey_lines s)

-- so it is what is written for one survey more
pub written-more : (ss : List SurveyValue) (s : SurveyValue) (text more : List ℕ) (before after : Status) → AreWrittenAs ss text before → IsSurvey s → more ≡ text ++ joined (survey_lines s)
    → after ≡ status_of (ss ++ s ∷ []) → AreWrittenAs (ss ++ s ∷ []) more after
written-more ss s text more before after h valid t is = record { valid = All-push IsSurvey ss s h.valid valid; text = t ∙ ap (λ x. x ++ joined (survey_lines s)) h.text ∙ sym (text_of-more ss s); status_is = is }

-- a text more
pub surveyed-more : (names texts : List (List ℕ)) (name text answer more : List ℕ) (before after : Status) (s : SurveyValue) → AreSurveyed names texts answer before
    → IsName name → s.name ≡ name → IsFieldOf text s.field
    → ((ss : List SurveyValue) → AreWrittenAs ss answer before → AreWrittenAs (ss ++ s ∷ []) more after)
    → AreSurveyed (names ++ name ∷ []) (texts ++ text ∷ []) more after
surveyed-more names texts name text answer more before after s h valid named says writes = record {
  valid = All-push IsName names name h.valid valid;
  surveys = h.surveys ++ s ∷ [];
  are = record {
    named = map-append (λ (r : SurveyValue). r.name) h.surveys (s ∷ []) ∙ ap (λ ns. ns ++ s.name ∷ []) h.are.named ∙ ap (λ n. names ++ n ∷ []) named;
    say = all_zipped_more (λ t (r : SurveyValue). IsFieldOf t r.field) texts h.surveys text s h.are.say says;
  };
  written = writes h.surveys h.written;
}

-- a name that is none is among more names
pub unnamed_last : (names : List (List ℕ)) (name : List ℕ) → (IsName name → ⊥) → All IsName (names ++ name ∷ []) → ⊥
unnamed_last names name none all = none (All-contains IsName (names ++ name ∷ []) name all (Contains-push names name))

pub unnamed_before : (names : List (List ℕ)) (name : List ℕ) → (All IsName names → ⊥) → All IsName (names ++ name ∷ []) → ⊥
unnamed_before names name none all = none (subst (All IsName) (take-append_seam names (name ∷ [])) (All-take IsName (length names) (names ++ name ∷ []) all))

-- the text of surveys is empty only where there are none
not_empty : (s : SurveyValue) (ss : List SurveyValue) → 0 < length (text_of (s ∷ ss))
not_empty s ss = omega arith

pub none_surveyed : (names texts : List (List ℕ)) (answer : List ℕ) (before : Status) → AreSurveyed names texts answer before → length answer ≡ 0
    → (other : List ℕ) (status : Status) → IsSurveyRun names texts other status → ⊥
none_surveyed names texts answer before h empty other status is = at texts h.surveys h.are.say is.some (ap length (sym h.written.text) ∙ empty)
  where
    at : (texts : List (List ℕ)) (ss : List SurveyValue) → AllZip (λ text (s : SurveyValue). IsFieldOf text s.field) texts ss → 0 < length texts → length (text_of ss) ≡ 0 → ⊥
    at [] ss say some is = omega (arith, some)
    at (text ∷ texts) [] say some is = say
    at (text ∷ texts) (s ∷ ss) say some is = omega (arith, not_empty s ss, is)

-- and where it isn't, there is a text
pub some_surveyed : (names texts : List (List ℕ)) (answer : List ℕ) (before : Status) → AreSurveyed names texts answer before → 0 < length answer → IsSurveyRun names texts answer before
some_surveyed names texts answer before h full = record { some = at texts h.surveys h.are.say (subst (λ t. 0 < length t) h.written.text full); surveyed = h }
  where
    at : (texts : List (List ℕ)) (ss : List SurveyValue) → AllZip (λ text (s : SurveyValue). IsFieldOf text s.field) texts ss → 0 < length (text_of ss) → 0 < length texts
    at [] [] say full = omega (arith, full)
    at [] (s ∷ ss) say full = absurd say
    at (text ∷ texts) ss say full = omega arith
