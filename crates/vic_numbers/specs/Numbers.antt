-- An answer in numbers, with its line.
use Rattle.std.specs.Prelude.{◌≡◌, ℕ, ◌-◌, List, ◌++◌, length, replicate}
use Rattle.vic_verdict.specs.Verdict.{IsVerdict}
use Rattle.vic_verdict.specs.declared.judging.Verdict.{Verdict}
use Rattle.vic_verdict.specs.declared.judging.Verdict.TheVariants.{Impossible, Absent, Unlisted, Unsettled, Doubtful, Complete}
use Rattle.vic_answer.specs.Answered.{IsAnswered}
use Rattle.vic_answer.specs.declared.answered.Answered.{Answered}
use Rattle.vic_answer.specs.declared.answered.Answered.TheVariants.{Found, RefusedAt}
use Rattle.vic_answer.specs.declared.text.TheConstants.{ANSWER_ROOM}
use Rattle.vic_answer.specs.CheckText.{check_text, check_status}
use Rattle.vic_answer.specs.Status.{status_code}
use Rattle.vic_numbers.specs.declared.numbers.VicinityAnswer.{VicinityAnswer}
use Rattle.vic_numbers.specs.FaultNumbers.{fault_number}

-- no answer: memory was refused
abbrev pub no_answer : VicinityAnswer
no_answer = record {
  kind = 0;
  status = 4;
  count = 0;
  line = 0;
  fault = 0;
  mask_len = 0;
  mask_value = 0;
  uid = 0;
  text = replicate ANSWER_ROOM 0;
}

-- a text with zeros after it: in all, as many bytes as the buffer for an answer's line has
abbrev pub padded : List ℕ → List ℕ
padded text = text ++ replicate (ANSWER_ROOM - length text) 0

-- the fields of a verdict, except status and text
abbrev pub verdict_fields : Verdict → VicinityAnswer
verdict_fields (Complete n) = record no_answer { kind = 1; count = n }
verdict_fields (Absent u) = record no_answer { kind = 2; uid = u }
verdict_fields (Unlisted u) = record no_answer { kind = 3; uid = u }
verdict_fields (Unsettled m) =
    record no_answer { kind = 4; mask_len = m.len; mask_value = m.value }
verdict_fields (Doubtful u) = record no_answer { kind = 5; uid = u }
verdict_fields (Impossible n) = record no_answer { kind = 6; line = n }

-- the fields of an answer, except status and text
abbrev pub answer_fields : Answered Verdict → VicinityAnswer
answer_fields (Found v) = verdict_fields v
answer_fields (RefusedAt n fault) =
    record no_answer { kind = 7; line = n; fault = fault_number fault }

-- the fields of an answer, with the exit status and the line of the program
abbrev pub numbers_of : Answered Verdict → VicinityAnswer
numbers_of a = record (answer_fields a) {
  status = status_code (check_status a);
  text = padded (check_text a);
}

-- these are the numbers of the answer to a text
pub record AreNumbersFor (text : List ℕ) (numbers : VicinityAnswer) : Type 0 where
  pub answer : Answered Verdict
  pub right : IsAnswered IsVerdict text answer
  pub numbers_are : numbers ≡ numbers_of answer
