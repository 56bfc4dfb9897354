-- Populations of tags, which of them answer, and which populations could have produced a log's
-- entries.
use Rattle.std.specs.Prelude.{◌≡◌, ◌≢◌, ℕ, Bool, true, false, not, ◌&&◌, Some, List, [], ◌∷◌, ⊤, slice_get}
use Rattle.std.specs.List.{filter}
use Rattle.vic_frame.specs.Uids.{IsUid, has}
use Rattle.vic_log.specs.declared.entry.Entry.{Entry}
use Rattle.vic_log.specs.declared.entry.Entry.TheVariants.{Sent, Silent, Collision, Heard, Listed, Garbled, FieldCycle, Captured, Unknown}
use Rattle.vic_log.specs.Rounds.{mask_at, lies_in_some}
use Rattle.vic_log.specs.Quiet.{is_quiet}

-- a population: different UIDs
abbrev pub IsPopulation : List ℕ → Type 0
IsPopulation [] = ⊤
IsPopulation (u ∷ us) = IsUid u × (has us u ≡ false) × IsPopulation us

-- a tag with this UID, if it is in the field, answers in the slot at position i: it is Ready, and
-- lies in the slot's mask
abbrev pub answers_at : List Entry → ℕ → ℕ → Bool
answers_at es i u = lies_in_some (mask_at es i) u && not (is_quiet es i u)

-- what happens in a slot
pub data Outcome : Type 0 where
  Nobody : Outcome
  Lone : (uid : ℕ) → Outcome
  Several : Outcome

-- the outcome if these tags answer
abbrev pub outcome_of : List ℕ → Outcome
outcome_of [] = Nobody
outcome_of (u ∷ []) = Lone u
outcome_of (u ∷ v ∷ us) = Several

-- the UIDs of a population that answer in the slot at position i
abbrev pub answerers_at : List Entry → ℕ → List ℕ → List ℕ
answerers_at es i p = filter (answers_at es i) p

-- an entry fits the UIDs that answer in its slot; an entry that isn't a slot line fits any
abbrev pub Fits : Entry → List ℕ → Type 0
Fits Silent us = outcome_of us ≡ Nobody
Fits (Heard r) us = outcome_of us ≡ Lone r.uid
Fits (Captured r) us = has us r.uid ≡ true
Fits Collision us = outcome_of us ≡ Several
Fits Garbled us = outcome_of us ≢ Nobody
Fits Unknown us = ⊤
Fits (Sent q) us = ⊤
Fits (Listed u) us = ⊤
Fits FieldCycle us = ⊤

-- every slot line fits those who answer in its slot
abbrev pub CouldHaveGiven : List ℕ → List Entry → Type 0
CouldHaveGiven p es =
    (i : ℕ) (e : Entry) → slice_get es i ≡ Some e → Fits e (answerers_at es i p)
