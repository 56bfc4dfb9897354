-- The UIDs that a reading leaves open beside others.
use Rattle.std.specs.Prelude.{◌≡◌, ℕ, zero, suc, ◌≤◌, Bool, false, not, ◌&&◌, if◌then◌else◌, Option, Some, None, List, nat_le, slice_get}
use Rattle.vic_frame.specs.Masks.{BitMask}
use Rattle.vic_log.specs.Deaf.{IsLastAnswer, is_answer}
use Rattle.vic_log.specs.declared.entry.Entry.{Entry}
use Rattle.vic_log.specs.Slots.{is_open, slots_before}
use Rattle.vic_tree.specs.OpenSet.{IsWidest, SameUids}
use Rattle.vic_tree.specs.Ranges.{is_open_in}

-- before position i the entries leave the UID open, and its key is in none of the ranges
abbrev pub is_opened : List Entry → ℕ → List (ℕ × ℕ) → ℕ → Bool
is_opened es i ranges u = is_open (slots_before es i) u && not (is_open_in ranges u)

-- the first mask in a set, none if the set is empty
abbrev pub IsWidestOpened : (ℕ → Bool) → Option BitMask → Type 0
IsWidestOpened set (Some m) = IsWidest set m
IsWidestOpened set None = SameUids set (λ _. false)

-- the position is the one behind the last answer, 0 where there is none
abbrev pub IsBehindAnswers : List Entry → ℕ → Type 0
IsBehindAnswers es zero = (j : ℕ) (e : Entry) → slice_get es j ≡ Some e → is_answer e ≡ false
IsBehindAnswers es (suc i) = IsLastAnswer es i

-- the end of a part before a position, by its end
abbrev pub end_before : ℕ → ℕ → ℕ
end_before position end = if nat_le end position then end else 0
