-- The margin of a log, in numbers.
use Rattle.std.specs.Prelude.{◌≡◌, ℕ, Option, Some, None, List}
use Rattle.vic_frame.specs.Masks.{BitMask}
use Rattle.vic_margin.specs.declared.answer.Margin.{Margin}
use Rattle.vic_margin.specs.declared.answer.Readings.{Readings}
use Rattle.vic_margin.specs.declared.answer.Weakest.{Weakest}
use Rattle.vic_answer.specs.declared.answered.Answered.{Answered}
use Rattle.vic_answer.specs.declared.answered.Answered.TheVariants.{Found, RefusedAt}
use Rattle.vic_numbers.specs.declared.numbers.VicinityAnswer.{VicinityAnswer}
use Rattle.vic_answer.specs.Answered.{IsAnswered, answer_of}
use Rattle.vic_answer.specs.MarginText.{IsMarginOfLines}
use Rattle.vic_numbers.specs.Numbers.{numbers_of}
use Rattle.vic_numbers.specs.declared.margin_numbers.VicinityWeakest.{VicinityWeakest}

-- no margin: the log is impossible, or the text is refused
abbrev pub no_weakest : VicinityWeakest
no_weakest = record {
  margin = 0;
  mask_len = 0;
  mask_value = 0;
  has_hidden = 0;
  hidden_len = 0;
  hidden_value = 0;
  has_deaf = 0;
  deaf_len = 0;
  deaf_value = 0;
}

-- 1 if there is a mask, 0 if not
abbrev pub has_mask : Option BitMask → ℕ
has_mask (Some m) = 1
has_mask None = 0

-- a mask, with zeros for none
abbrev pub mask_or_zeros : Option BitMask → BitMask
mask_or_zeros (Some m) = m
mask_or_zeros None = record { len = 0; value = 0 }

-- the two readings; where a log has none, as if they left no mask unsettled
abbrev pub readings_or_none : Option Readings → Readings
readings_or_none (Some r) = r
readings_or_none None = record { hidden = None; deaf = None }

-- the margin of a log and its weakest mask, with its readings
abbrev pub weakest_and_readings : Weakest → Readings → VicinityWeakest
weakest_and_readings w r = record {
  margin = w.margin;
  mask_len = w.mask.len;
  mask_value = w.mask.value;
  has_hidden = has_mask r.hidden;
  hidden_len = (mask_or_zeros r.hidden).len;
  hidden_value = (mask_or_zeros r.hidden).value;
  has_deaf = has_mask r.deaf;
  deaf_len = (mask_or_zeros r.deaf).len;
  deaf_value = (mask_or_zeros r.deaf).value;
}

abbrev pub weakest_fields : Option Weakest → Readings → VicinityWeakest
weakest_fields None r = no_weakest
weakest_fields (Some w) r = weakest_and_readings w r

-- the margin in the answer to a text; without its readings if the list isn't complete
abbrev pub weakest_of : Answered Margin → VicinityWeakest
weakest_of (Found m) = weakest_fields m.weakest (readings_or_none m.readings)
weakest_of (RefusedAt n fault) = no_weakest

-- these are the numbers of the answer to a text, with the margin of its log
pub record AreMarginNumbersFor (text : List ℕ) (numbers : VicinityAnswer)
    (weakest : VicinityWeakest) : Type 0 where
  pub measured : Answered Margin
  pub right : IsAnswered IsMarginOfLines text measured
  pub numbers_are : numbers ≡ numbers_of (answer_of (λ x. x.verdict) measured)
  pub weakest_are : weakest ≡ weakest_of measured
