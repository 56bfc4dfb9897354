-- A run that wrote `complete ` has read a text whose list is complete.
use Rattle.vic_answer.proofs.Words.{◌≡◌, ℕ, List, ◌++◌, Option, Some, None, Result, Ok, Err, inl, inr, refl, ap, subst, sym, append_cancel_left, Appends, lines_of_text, LogValue, IsLogOf, IsEnough, ForText, Reading, ReadsEnough, RunsOver, RunsOverRevealed, RunFault, Sink, Source, Status, not_both}
use Rattle.vic_answer.specs.Runs.{ReadsAndWrites}
use Rattle.vic_answer.specs.CompleteRun.{BeginWith, IsCompleteWhereRevealed, IsCompleteWhereWritten, IsCompleteWhereWrittenFirst, ReadsCompleteList}
use Rattle.vic_answer.proofs.CheckLines.{IsCompleteAnswer, TellComplete, TellCompleteFirst}

-- what a sink took behind the bytes before is the answer
answer_taken : (old new : Option (List ℕ)) (before after answer : List ℕ) → old ≡ Some before → new ≡ Some (before ++ after) → Appends old new answer → after ≡ answer
answer_taken None new before after answer was now h = cc was
answer_taken (Some xs) None before after answer was now h = absurd h
answer_taken (Some xs) (Some ys) before after answer was now h =
    let e : before ++ after ≡ before ++ answer = cc (h, was, now) in
    append_cancel_left before after answer e

-- a text that has a log has no fault, so no more bytes follow
pub over : (IsOver : Type 0) (text : List ℕ) (log : LogValue) → IsLogOf (lines_of_text text) log → IsEnough IsOver text → IsOver
over IsOver text log is_log (inl is_over) = is_over
over IsOver text log is_log (inr early) = absurd (not_both _ _ _ _ early.early.fault is_log)

-- the answer to what was read is what was taken
said : (IsAnswerTo : ForText) {reading : Reading} {taken taken' : Option (List ℕ)} (status : Status)
    (h : ReadsAndWrites IsAnswerTo reading Appends taken taken' status) (before after : List ℕ) → taken ≡ Some before → taken' ≡ Some (before ++ after) → IsAnswerTo h.text after status
said IsAnswerTo {taken = taken} {taken' = taken'} status h before after was now =
    subst (λ a. IsAnswerTo h.text a status) (sym (answer_taken taken taken' before after h.holds.0 was now h.holds.2)) h.holds.1

-- a text whose list is complete was read to its end
read_complete : {P : List ℕ → Type 0} {reading : Reading} (h : ReadsEnough reading P) (line : List ℕ) → IsCompleteAnswer h.text line → ReadsCompleteList reading.HasRead reading.IsOver line
read_complete {reading = reading} h line told = record {
  text = h.text;
  read = h.given;
  over = over reading.IsOver h.text told.complete.log told.complete.is_log h.enough;
  count = told.count;
  complete = told.complete;
  told = told.told;
}

front_becomes : {P Q : List ℕ → Type 0} {bytes : List ℕ} → ((line : List ℕ) → P line → Q line) → BeginWith P bytes → BeginWith Q bytes
front_becomes f b = record { front = b.front; more = b.more; right = f b.front b.right; are = b.are }

module _ {R W : Type 0} (s : Source R) (w : Sink W) (IsAnswerTo : ForText) (a a' : R) (b b' : W) where
  pub complete_where_revealed : TellComplete IsAnswerTo → (r : Result Status RunFault) → RunsOverRevealed IsAnswerTo s w a a' b b' r → IsCompleteWhereRevealed s w a a' b b' r
  complete_where_revealed tell (Err e) h = tt
  complete_where_revealed tell (Ok status) h = λ before rest was now.
      read_complete h rest (tell h.text rest status (said IsAnswerTo status h before _ was now))

  pub complete_where_written : TellComplete IsAnswerTo → (r : Result Status RunFault) → RunsOver IsAnswerTo s w a a' b b' r → IsCompleteWhereWritten s w a a' b b' r
  complete_where_written tell (Err e) h = tt
  complete_where_written tell (Ok status) h = λ rest now.
      read_complete h rest (tell h.text rest status (said IsAnswerTo status h (w.written b) _ refl (ap Some now)))

  pub complete_where_written_first : TellCompleteFirst IsAnswerTo → (r : Result Status RunFault) → RunsOver IsAnswerTo s w a a' b b' r → IsCompleteWhereWrittenFirst s w a a' b b' r
  complete_where_written_first tell (Err e) h = tt
  complete_where_written_first tell (Ok status) h = λ rest now.
      front_becomes (read_complete h) (tell h.text rest status (said IsAnswerTo status h (w.written b) _ refl (ap Some now)))
