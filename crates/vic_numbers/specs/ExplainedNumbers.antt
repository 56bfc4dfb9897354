-- An explained answer in numbers, with its population in a caller's buffer.
use Rattle.std.specs.Prelude.{◌≡◌, ℕ, List}
use Rattle.vic_verdict.specs.Explained.{IsExplanation}
use Rattle.vic_verdict.specs.declared.explanation.Explanation.{Explanation}
use Rattle.vic_answer.specs.Answered.{IsAnswered, answer_of}
use Rattle.vic_answer.specs.declared.answered.Answered.{Answered}
use Rattle.vic_numbers.specs.declared.numbers.VicinityAnswer.{VicinityAnswer}
use Rattle.vic_numbers.specs.Buffers.{IsReturned}
use Rattle.vic_answer.specs.ExplainText.{uids_of}
use Rattle.vic_numbers.specs.Numbers.{numbers_of}

-- these are the numbers of the explained answer to a text; its population has `count` UIDs, which
-- are returned in a buffer
pub record AreExplainedNumbersFor (text : List ℕ) (numbers : VicinityAnswer) (count : ℕ)
    (room room' : List ℕ) : Type 0 where
  pub explained : Answered Explanation
  pub right : IsAnswered IsExplanation text explained
  pub numbers_are : numbers ≡ numbers_of (answer_of (λ x. x.verdict) explained)
  pub returned : IsReturned (uids_of explained) room room' count
