-- Families of populations that may have been in the fields of several logs, by their texts, of
-- which some may tell nothing (profile).
use Rattle.std.specs.Prelude.{◌≡◌, ℕ, Bool, true, List}
use Rattle.std.specs.List.{AllZip, list_any}
use Rattle.vic_frame.specs.Uids.{has}
use Rattle.vic_log.specs.Lines.{lines_of_text}
use Rattle.vic_log.specs.Log.{LogValue}
use Rattle.vic_log.specs.Order.{entries}
use Rattle.vic_log.specs.Populations.{IsPopulation, CouldHaveGiven}
use Rattle.vic_log.specs.Text.{IsLogOf}
use Rattle.vic_verdict.specs.Possible.{IsPossible}

-- the population could have produced the log of the text; any could have been in the field where
-- the text has none, or none that is possible
abbrev pub MayHaveBeen : List ℕ → List ℕ → Type 0
MayHaveBeen p text =
    IsPopulation p
    × ((log : LogValue) → IsLogOf (lines_of_text text) log → IsPossible (entries log.lines)
    → CouldHaveGiven p (entries log.lines))

-- some population that may have been in the field of the log has the UID
abbrev pub IsPossibleIn : ℕ → List ℕ → Type 0
IsPossibleIn u text = (p : List ℕ) × MayHaveBeen p text × (has p u ≡ true)

-- every population that may have been there has the UID
abbrev pub IsCertainIn : ℕ → List ℕ → Type 0
IsCertainIn u text = (p : List ℕ) → MayHaveBeen p text → has p u ≡ true

-- a population for each text, in their order
abbrev pub FitsTexts : List (List ℕ) → List (List ℕ) → Type 0
FitsTexts family texts = AllZip MayHaveBeen family texts

-- the UID is in one of the populations
abbrev pub is_somewhere : List (List ℕ) → ℕ → Bool
is_somewhere family u = list_any (λ p. has p u) family

-- some family that fits has the UID
abbrev pub IsPossibleUid : List (List ℕ) → ℕ → Type 0
IsPossibleUid texts u =
    (family : List (List ℕ)) × FitsTexts family texts × (is_somewhere family u ≡ true)

-- every family that fits has the UID
abbrev pub IsCertainUid : List (List ℕ) → ℕ → Type 0
IsCertainUid texts u =
    (family : List (List ℕ)) → FitsTexts family texts → is_somewhere family u ≡ true
