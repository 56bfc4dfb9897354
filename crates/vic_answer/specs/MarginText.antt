-- What `margin` writes for a text: the line of `check`, and, if it is `complete`, the margin of the
-- log, its weakest mask, and what its hidden and its deaf reading leave unsettled.
use Rattle.std.specs.Prelude.{ℕ, Option, Some, None, MatchOption, List, [], ◌++◌, codes, decimal}
use Rattle.vic_frame.specs.Masks.{BitMask}
use Rattle.vic_log.specs.Order.{entries}
use Rattle.vic_log.specs.declared.entry.LogLine.{LogLine}
use Rattle.vic_verdict.specs.declared.judging.Verdict.{Verdict}
use Rattle.vic_verdict.specs.declared.judging.Verdict.TheVariants.{Complete}
use Rattle.vic_verdict.specs.Possible.{IsPossible}
use Rattle.vic_verdict.specs.Verdict.{IsVerdict}
use Rattle.vic_margin.specs.declared.answer.Margin.{Margin}
use Rattle.vic_margin.specs.declared.answer.Readings.{Readings}
use Rattle.vic_margin.specs.declared.answer.Weakest.{Weakest}
use Rattle.vic_margin.specs.Margins.{IsWeakest}
use Rattle.vic_margin.specs.Readings.{AreReadingsIfComplete}
use Rattle.vic_answer.specs.Answered.{answer_of}
use Rattle.vic_answer.specs.CheckText.{IsCommandText, check_text}
use Rattle.vic_text.specs.Digits.{mask_text}
use Rattle.vic_answer.specs.declared.answered.Answered.{Answered}
use Rattle.vic_answer.specs.declared.answered.Answered.TheVariants.{Found, RefusedAt}
use Rattle.vic_answer.specs.Runs.{ForText}

-- the verdict on the lines of a log; if it is possible, its margin and its weakest mask; and if its
-- list is complete, what its hidden and its deaf reading leave unsettled
pub record IsMarginOfLines (lines : List LogLine) (m : Margin) : Type 0 where
  pub verdict : IsVerdict lines m.verdict
  pub weakest : MatchOption m.weakest (IsPossible (entries lines) → ⊥)
      (λ w. IsPossible (entries lines) × IsWeakest (entries lines) w)
  pub readings : AreReadingsIfComplete (entries lines) m.verdict m.readings

-- the margin of a log, and its weakest mask, each on a line
abbrev pub weakest_text : Option Weakest → List ℕ
weakest_text None = []
weakest_text (Some w) =
    codes "margin " ++ decimal w.margin ++ codes "\n"
    ++ codes "weakest " ++ mask_text w.mask ++ codes "\n"

-- a mask, or `-` if there is none
abbrev pub mask_or_none : Option BitMask → List ℕ
mask_or_none (Some m) = mask_text m
mask_or_none None = codes "-"

-- what the hidden and the deaf reading of a log leave unsettled, each on a line
abbrev pub readings_text : Option Readings → List ℕ
readings_text None = []
readings_text (Some r) =
    codes "hidden " ++ mask_or_none r.hidden ++ codes "\n"
    ++ codes "deaf " ++ mask_or_none r.deaf ++ codes "\n"

-- they follow `complete` alone
abbrev pub following_text : Verdict → Margin → List ℕ
following_text (Complete count) m = weakest_text m.weakest ++ readings_text m.readings
following_text verdict m = []

-- what follows the line of `check`
abbrev pub margin_lines : Answered Margin → List ℕ
margin_lines (Found m) = following_text m.verdict m
margin_lines (RefusedAt n fault) = []

-- what `margin` writes for what it found, or for a fault of the text
abbrev pub measured_text : Answered Margin → List ℕ
measured_text measured = check_text (answer_of (λ x. x.verdict) measured) ++ margin_lines measured

-- what `margin` writes for a text, and its status
abbrev pub IsMarginOf : ForText
IsMarginOf = IsCommandText IsMarginOfLines (λ x. x.verdict) measured_text
