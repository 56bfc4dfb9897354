-- The main theorem in the words of each version of the log. In version 2, tags are Ready at the
-- start and after each field cycle, a lone reply is heard or garbled, and two or more are a
-- collision or garbled. In version 3, any reply may be captured, alone or over others, and any
-- outcome may be logged as unknown.
use Rattle.std.specs.Prelude.{◌≡◌, ◌≢◌, ◌↔◌, ◌⊎◌, ℕ, ◌<◌, true, Some, List, ⊤, slice_get}
use Rattle.vic_frame.specs.Uids.{has}
use Rattle.vic_log.specs.declared.entry.Entry.{Entry}
use Rattle.vic_log.specs.declared.entry.Entry.TheVariants.{Silent, Collision, Heard, Garbled, FieldCycle, Captured}
use Rattle.vic_log.specs.FirstVersion.{CouldHaveGivenFirst}
use Rattle.vic_log.specs.Order.{listed}
use Rattle.vic_log.specs.Populations.{IsPopulation}
use Rattle.vic_log.specs.Quiet.{silences}
use Rattle.vic_log.specs.Rounds.{mask_at, lies_in_some}

-- the relation holds between some population and the entries, and each such population has exactly
-- the listed UIDs
abbrev pub HasExactlyListed : (List ℕ → List Entry → Type 0) → List Entry → Type 0
HasExactlyListed Gives es =
    ((p : List ℕ) × IsPopulation p × Gives p es)
    × ((p : List ℕ) → IsPopulation p → Gives p es
    → (u : ℕ) → (has p u ≡ true) ↔ (has (listed es) u ≡ true))

-- the main theorem for version 1, whose logs have no garbled slots and no field cycles
abbrev pub IsWholeFirst : List Entry → Type 0
IsWholeFirst = HasExactlyListed CouldHaveGivenFirst

-- a tag with this UID is Ready at position i: after each Stay Quiet with its UID the field was
-- switched off and on
abbrev pub IsReady : List Entry → ℕ → ℕ → Type 0
IsReady es i u =
    (j : ℕ) → j < i → silences (slice_get es j) u ≡ true
    → (k : ℕ) × (j < k) × (k < i) × (slice_get es k ≡ Some FieldCycle)

-- a tag of the population with this UID answers in the slot at position i
abbrev pub Answers : List ℕ → List Entry → ℕ → ℕ → Type 0
Answers p es i u = (has p u ≡ true) × IsReady es i u × (lies_in_some (mask_at es i) u ≡ true)

-- only this tag answers
abbrev pub AnswersAlone : List ℕ → List Entry → ℕ → ℕ → Type 0
AnswersAlone p es i u = Answers p es i u × ((v : ℕ) → Answers p es i v → v ≡ u)

-- two or more tags answer
abbrev pub SeveralAnswer : List ℕ → List Entry → ℕ → Type 0
SeveralAnswer p es i = (u v : ℕ) × (u ≢ v) × Answers p es i u × Answers p es i v

-- what the entry at position i says of its slot is true of the population
abbrev pub IsTrueOf : List ℕ → List Entry → ℕ → Entry → Type 0
IsTrueOf p es i Silent = (u : ℕ) → Answers p es i u → ⊥
IsTrueOf p es i (Heard r) = AnswersAlone p es i r.uid
IsTrueOf p es i Collision = SeveralAnswer p es i
IsTrueOf p es i Garbled = ((u : ℕ) × AnswersAlone p es i u) ⊎ SeveralAnswer p es i
IsTrueOf p es i e = ⊤  -- no slot line of version 2

-- every slot line is true of the population
abbrev pub CouldHaveGivenSecond : List ℕ → List Entry → Type 0
CouldHaveGivenSecond p es =
    (i : ℕ) (e : Entry) → slice_get es i ≡ Some e → IsTrueOf p es i e

-- the main theorem for version 2
abbrev pub IsWholeSecond : List Entry → Type 0
IsWholeSecond = HasExactlyListed CouldHaveGivenSecond

-- what the entry at position i says is true of the population, with the lines of version 3 too: the
-- tag whose reply was captured answers, alone or not; an unknown slot says nothing
abbrev pub IsTrueOfThird : List ℕ → List Entry → ℕ → Entry → Type 0
IsTrueOfThird p es i (Captured r) = Answers p es i r.uid
IsTrueOfThird p es i e = IsTrueOf p es i e

-- every slot line, those of version 3 too, is true of the population
abbrev pub CouldHaveGivenThird : List ℕ → List Entry → Type 0
CouldHaveGivenThird p es =
    (i : ℕ) (e : Entry) → slice_get es i ≡ Some e → IsTrueOfThird p es i e

-- the main theorem for version 3
abbrev pub IsWholeThird : List Entry → Type 0
IsWholeThird = HasExactlyListed CouldHaveGivenThird
