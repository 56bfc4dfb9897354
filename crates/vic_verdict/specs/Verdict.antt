-- The verdict on a log (profile): the first of six cases that applies.
use Rattle.std.specs.Prelude.{◌≡◌, ◌↔◌, ℕ, ◌^◌, ◌<◌, ◌≤◌, true, false, List, length, nat_le, slice_get}
use Rattle.std.specs.List.{filter}
use Rattle.vic_frame.specs.declared.uid.TheConstants.{UID_BITS}
use Rattle.vic_frame.specs.Uids.{IsUid, has}
use Rattle.vic_frame.specs.Masks.{BitMask, lies_in}
use Rattle.vic_log.specs.declared.entry.Entry.{Entry}
use Rattle.vic_log.specs.declared.entry.LogLine.{LogLine}
use Rattle.vic_log.specs.Populations.{IsPopulation, CouldHaveGiven}
use Rattle.vic_log.specs.Slots.{hears}
use Rattle.vic_log.specs.Order.{entries, listed}
use Rattle.vic_tree.specs.OpenSet.{IsAtMost}
use Rattle.vic_verdict.specs.declared.judging.Verdict.{Verdict}
use Rattle.vic_verdict.specs.declared.judging.Verdict.TheVariants.{Impossible, Absent, Unlisted, Unsettled, Doubtful, Complete}
use Rattle.vic_verdict.specs.Possible.{IsPossible, IsPossibleUid, IsCertainUid}

-- the entries of the lines 1 to n
abbrev pub entries_to : ℕ → List LogLine → List Entry
entries_to n lines = entries (filter (λ l. nat_le l.number n) lines)

-- a listed UID that isn't possible
abbrev pub IsAbsent : List Entry → ℕ → Type 0
IsAbsent es u = (has (listed es) u ≡ true) × (IsPossibleUid es u → ⊥)

-- a certain UID that isn't listed
abbrev pub IsUnlisted : List Entry → ℕ → Type 0
IsUnlisted es u = IsCertainUid es u × (has (listed es) u ≡ false)

-- a mask of at most 56 bits all of whose UIDs are possible and not listed
abbrev pub IsUnsettled : List Entry → BitMask → Type 0
IsUnsettled es m =
    (m.len ≤ UID_BITS) × (m.value < 2 ^ m.len)
    × ((u : ℕ) → IsUid u → lies_in m u ≡ true
    → IsPossibleUid es u × (has (listed es) u ≡ false))

-- a listed UID that isn't certain
abbrev pub IsDoubtful : List Entry → ℕ → Type 0
IsDoubtful es u = (has (listed es) u ≡ true) × (IsCertainUid es u → ⊥)

-- nothing has the property
abbrev pub NoSuch : {A : Type 0} → (A → Type 0) → Type 0
NoSuch {A} P = (x : A) → P x → ⊥

-- the least number with the property
abbrev pub IsLeast : (ℕ → Type 0) → ℕ → Type 0
IsLeast P n = P n × ((m : ℕ) → P m → n ≤ m)

-- the mask with the property that has the least length, then the least value
abbrev pub IsFirstMask : (BitMask → Type 0) → BitMask → Type 0
IsFirstMask P m = P m × ((k : BitMask) → P k → IsAtMost m k)

-- the verdict on a log's lines
abbrev pub IsVerdict : List LogLine → Verdict → Type 0
IsVerdict lines (Impossible n) = IsLeast (λ k. IsPossible (entries_to k lines) → ⊥) n
IsVerdict lines (Absent u) =
    let es = entries lines in IsPossible es × IsLeast (IsAbsent es) u
IsVerdict lines (Unlisted u) =
    let es = entries lines in IsPossible es × NoSuch (IsAbsent es) × IsLeast (IsUnlisted es) u
IsVerdict lines (Unsettled m) =
    let es = entries lines in
    IsPossible es × NoSuch (IsAbsent es) × NoSuch (IsUnlisted es)
    × IsFirstMask (IsUnsettled es) m
IsVerdict lines (Doubtful u) =
    let es = entries lines in
    IsPossible es × NoSuch (IsAbsent es) × NoSuch (IsUnlisted es) × NoSuch (IsUnsettled es)
    × IsLeast (IsDoubtful es) u
IsVerdict lines (Complete count) =
    let es = entries lines in
    IsPossible es × NoSuch (IsAbsent es) × NoSuch (IsUnlisted es) × NoSuch (IsUnsettled es)
    × NoSuch (IsDoubtful es)
    × (count ≡ length (listed es))

-- the list is complete: some population could have produced the entries, and each that could has
-- exactly the listed UIDs
abbrev pub IsWhole : List Entry → Type 0
IsWhole es =
    IsPossible es
    × ((p : List ℕ) → IsPopulation p → CouldHaveGiven p es
    → (u : ℕ) → (has p u ≡ true) ↔ (has (listed es) u ≡ true))

-- some slot line is a reply of the UID
abbrev pub IsHeard : List Entry → ℕ → Type 0
IsHeard es u = (i : ℕ) × (hears (slice_get es i) u ≡ true)

-- the log is possible, each UID that it lists was heard, and no other is possible
abbrev pub IsAllHeard : List Entry → Type 0
IsAllHeard es =
    IsPossible es
    × ((u : ℕ) → has (listed es) u ≡ true → IsHeard es u)
    × ((u : ℕ) → IsPossibleUid es u → has (listed es) u ≡ true)
