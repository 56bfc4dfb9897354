-- The text of a log, and a list of UIDs beside it.
use Rattle.std.specs.Prelude.{◌≡◌, ℕ, List, [], ◌∷◌, ◌++◌, length, if◌then◌else◌}
use Rattle.vic_log.specs.Lines.{ends_with, lf}
use Rattle.vic_log.specs.Log.{LogValue}
use Rattle.vic_log.specs.Order.{entries, listed}
use Rattle.vic_log.specs.Writing.{listed_text}
use Rattle.vic_answer.specs.Answered.{HasLog}

-- a text with LF after its last line
abbrev pub with_last_lf : List ℕ → List ℕ
with_last_lf text = if ends_with lf text then text else text ++ lf ∷ []

-- the text with a line after it for each UID
abbrev pub with_listed : List ℕ → List ℕ → List ℕ
with_listed text uids = with_last_lf text ++ listed_text uids

-- both have a log, and that of the second lists what that of the text lists, then exactly these
-- UIDs: so many in all
pub record ListsBeside (text uids : List ℕ) (count : ℕ) : Type 0 where
  pub own : LogValue
  pub log : LogValue
  pub is_own : HasLog (with_last_lf text) own
  pub is_log : HasLog (with_listed text uids) log
  pub lists : listed (entries log.lines) ≡ listed (entries own.lines) ++ uids
  pub counted : count ≡ length (listed (entries log.lines))
