-- What an explanation of a verdict is (profile): a small population that could have produced the
-- log and shows the verdict.
use Rattle.std.specs.Prelude.{◌≡◌, ℕ, ◌+◌, ◌≤◌, true, false, List, length, ⊤, MatchOption}
use Rattle.std.specs.List.Sorted.{IsStrictlyIncreasing}
use Rattle.vic_frame.specs.Uids.{has}
use Rattle.vic_frame.specs.Masks.{lies_in}
use Rattle.vic_log.specs.declared.entry.Entry.{Entry}
use Rattle.vic_log.specs.declared.entry.LogLine.{LogLine}
use Rattle.vic_log.specs.Order.{entries}
use Rattle.vic_log.specs.Populations.{IsPopulation, CouldHaveGiven}
use Rattle.vic_verdict.specs.declared.explanation.Explanation.{Explanation}
use Rattle.vic_verdict.specs.declared.judging.Verdict.{Verdict}
use Rattle.vic_verdict.specs.declared.judging.Verdict.TheVariants.{Impossible, Absent, Unlisted, Unsettled, Doubtful, Complete}
use Rattle.vic_verdict.specs.Needs.{all_needs}
use Rattle.vic_verdict.specs.Verdict.{IsVerdict, IsHeard}

-- the list has every UID that was heard
abbrev pub HasAllHeard : List Entry → List ℕ → Type 0
HasAllHeard es heard = (u : ℕ) → IsHeard es u → has heard u ≡ true

-- at most the UIDs heard, each counted once, plus two for each collision, one for each garbled
-- slot, and one: so for any list that has those heard
abbrev pub AreFew : List Entry → List ℕ → Type 0
AreFew es us =
    (heard : List ℕ) → HasAllHeard es heard → length us ≤ length heard + all_needs es + 1

-- few UIDs, in rising order, that could have produced the entries
pub record IsSmallPopulation (es : List Entry) (us : List ℕ) : Type 0 where
  pub rising : IsStrictlyIncreasing us
  pub population : IsPopulation us
  pub could : CouldHaveGiven us es
  pub few : AreFew es us

-- a population shows what the verdict says: it lacks the absent or doubtful UID, or has the
-- unlisted UID or one of the unsettled mask. None shows that a log is impossible or its list
-- complete
abbrev pub Shows : Verdict → List ℕ → Type 0
Shows (Impossible line) us = ⊥
Shows (Absent u) us = has us u ≡ false
Shows (Unlisted u) us = has us u ≡ true
Shows (Unsettled m) us = (u : ℕ) × (lies_in m u ≡ true) × (has us u ≡ true)
Shows (Doubtful u) us = has us u ≡ false
Shows (Complete count) us = ⊥

-- no population can show the verdict
abbrev pub IsShownByNone : Verdict → Type 0
IsShownByNone (Impossible line) = ⊤
IsShownByNone (Complete count) = ⊤
IsShownByNone v = ⊥

-- the population of an explanation: a small one that shows the verdict
abbrev pub IsPopulationBehind : List Entry → Verdict → List ℕ → Type 0
IsPopulationBehind es v us = IsSmallPopulation es us × Shows v us

-- the verdict on the lines, with a small population that shows it, or with none if none can
pub record IsExplanation (lines : List LogLine) (x : Explanation) : Type 0 where
  pub verdict : IsVerdict lines x.verdict
  pub population : MatchOption x.population (IsShownByNone x.verdict)
      (λ us. IsPopulationBehind (entries lines) x.verdict us.items)
