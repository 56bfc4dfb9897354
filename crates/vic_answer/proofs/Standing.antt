-- From what reading returns to what a run answers.
use Rattle.vic_answer.proofs.Words.{◌≡◌, ℕ, List, Option, Result, Ok, Err, IfOk, IfErr, subst, sym, Accepts, ForText, RunFault, Status, Reading, ReadsEnough, Runs, Answered, LogValue, Write, IsReadAs, IsAnswered, IsCommandText, LogLine, Verdict, answer_of, check_status, refl}

-- a run that ends with the writing of its answer
pub ends_written : {reading : Reading} {taken taken' : Option (List ℕ)} {answer : List ℕ}
    → (IsAnswerTo : ForText) (status : Status) (read : Answered LogValue) → ReadsEnough reading (λ text. IsReadAs text read) → ((text : List ℕ) → IsReadAs text read → IsAnswerTo text answer status)
    → (r : Result Status RunFault) → IfOk r (λ s. s ≡ status) → Accepts taken taken' answer r → IfErr r (λ e. e ≡ Write) → Runs IsAnswerTo reading taken taken' r
ends_written {answer = answer} IsAnswerTo status read given right (Ok s) is h fault = record {
  text = given.text;
  given = given.given;
  enough = given.enough;
  holds = (answer, subst (IsAnswerTo given.text answer) (sym is) (right given.text given.holds), h.all);
}
ends_written {answer = answer} IsAnswerTo status read given right (Err Write) is h fault = (
  status,
  record {
    text = given.text;
    given = given.given;
    enough = given.enough;
    holds = (answer, right given.text given.holds, h.part);
  },
)
ends_written IsAnswerTo status read given right _ is h fault = cc

-- the text of what was found is what the command writes
pub found_text : {A : Type 0} (P : List LogLine → A → Type 0) (verdict_of : A → Verdict) (text_of : Answered A → List ℕ) (a : Answered A) (text : List ℕ) → IsAnswered P text a → IsCommandText P verdict_of text_of text (text_of a) (check_status (answer_of verdict_of a))
found_text P verdict_of text_of a text h = record { answered = a; right = h; written_is = refl; status_is = refl }
