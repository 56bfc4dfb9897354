-- Two cautious readings of entries. Hidden: each reply may have hidden others in its slot. Deaf:
-- besides, the reader may have noticed nothing any more from some moment after its last answer on.
use Rattle.std.specs.Prelude.{◌≡◌, ◌⊎◌, ℕ, ◌+◌, ◌<◌, ◌==◌, Bool, true, false, ◌&&◌, ◌||◌, if◌then◌else◌, Some, List, [], ◌∷◌, map, ⊤, slice_get}
use Rattle.vic_log.specs.declared.entry.Entry.{Entry}
use Rattle.vic_log.specs.declared.entry.Entry.TheVariants.{Sent, Silent, Collision, Heard, Listed, Garbled, FieldCycle, Captured, Unknown}

-- the entry is an answer: a slot in which a tag answered
abbrev pub is_answer : Entry → Bool
is_answer (Heard r) = true
is_answer (Captured r) = true
is_answer Collision = true
is_answer Garbled = true
is_answer Silent = false
is_answer Unknown = false
is_answer (Sent q) = false
is_answer (Listed u) = false
is_answer FieldCycle = false

-- how many slot lines are answers
abbrev pub answers : List Entry → ℕ
answers [] = 0
answers (e ∷ es) = (if is_answer e then 1 else 0) + answers es

-- position i has the last answer: no slot line behind it is one
pub record IsLastAnswer (es : List Entry) (i : ℕ) : Type 0 where
  pub answer : Entry
  pub here : slice_get es i ≡ Some answer
  pub is_answer_there : is_answer answer ≡ true
  pub last : (j : ℕ) (e : Entry) → i < j → slice_get es j ≡ Some e → is_answer e ≡ false

-- ---- hidden

-- a reply that was heard alone, as one that may have hidden others: the line `H` for `R`
abbrev pub captured : Entry → Entry
captured (Heard r) = Captured r
captured e = e

-- the entries as if replies may have hidden others
abbrev pub hidden_entries : List Entry → List Entry
hidden_entries es = map captured es

-- the entry is a reply that was heard alone: the line `R`, not `H`
abbrev pub is_heard_alone : Entry → Bool
is_heard_alone (Heard r) = true
is_heard_alone e = false

-- some reply was heard alone
abbrev pub has_heard_alone : List Entry → Bool
has_heard_alone [] = false
has_heard_alone (e ∷ es) = is_heard_alone e || has_heard_alone es

-- ---- deaf

-- an entry with so many answers behind it: a silent slot behind the last one, or where there is
-- none, as one of which nothing is known
abbrev pub deaf_entry : Entry → ℕ → Entry
deaf_entry Silent behind = if behind == 0 then Unknown else Silent
deaf_entry e behind = captured e

-- the entries as if, besides, the reader may have gone deaf after its last answer
abbrev pub deaf_entries : List Entry → List Entry
deaf_entries [] = []
deaf_entries (e ∷ es) = deaf_entry e (answers es) ∷ deaf_entries es

abbrev pub is_silent : Entry → Bool
is_silent Silent = true
is_silent e = false

-- a silent slot comes behind the last answer, or where there is none
abbrev pub ends_silent : List Entry → Bool
ends_silent [] = false
ends_silent (e ∷ es) = (is_silent e && answers es == 0) || ends_silent es

-- ---- what really happened, of which these readings are the most cautious

-- the same entry, or a reply that was heard alone as one that may have hidden others
abbrev pub IsPartlyHidden : Entry → Entry → Type 0
IsPartlyHidden d e = (d ≡ e) ⊎ (d ≡ captured e)

-- the entries, some of the replies as such that may have hidden others
abbrev pub ArePartlyHidden : List Entry → List Entry → Type 0
ArePartlyHidden [] [] = ⊤
ArePartlyHidden (d ∷ ds) (e ∷ es) = IsPartlyHidden d e × ArePartlyHidden ds es
ArePartlyHidden [] (e ∷ es) = ⊥
ArePartlyHidden (d ∷ ds) [] = ⊥

-- the same, and the entry, with so many answers behind it, as deaf reading has it
abbrev pub IsPartlyDeaf : Entry → Entry → ℕ → Type 0
IsPartlyDeaf d e behind = IsPartlyHidden d e ⊎ (d ≡ deaf_entry e behind)

-- the same, and some of the silent slots behind the last answer, as those from some moment on, as
-- such of which nothing is known
abbrev pub ArePartlyDeaf : List Entry → List Entry → Type 0
ArePartlyDeaf [] [] = ⊤
ArePartlyDeaf (d ∷ ds) (e ∷ es) = IsPartlyDeaf d e (answers es) × ArePartlyDeaf ds es
ArePartlyDeaf [] (e ∷ es) = ⊥
ArePartlyDeaf (d ∷ ds) [] = ⊥
