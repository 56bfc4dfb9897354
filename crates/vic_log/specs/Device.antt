-- What a read or a write moves, and what it does to the bytes that a device reveals.
use Rattle.std.specs.Prelude.{◌≡◌, ◌≤◌, ◌<◌, ◌⊎◌, ◌==◌, ◌&&◌, ℕ, List, [], ◌++◌, length, take, nat_lt, Bool, false, ⊤, None, Some, MatchResult, Option, Result, Ok, Err}
use Rattle.std.specs.Io.KnownBytes.{Consumes, Appends, IsAtEnd}
use Rattle.vic_log.specs.declared.source.FromRead.{FromRead}
use Rattle.vic_log.specs.declared.sink.ToWrite.{ToWrite}

-- the bytes that a read put into a buffer, or that a write accepted: the first n at `Ok(n)`
abbrev pub moved : {E : Type 0} → Result ℕ E → List ℕ → List ℕ
moved (Ok n) bytes = take n bytes
moved (Err e) bytes = []

-- bytes were added after those before
abbrev pub Grows : List ℕ → List ℕ → List ℕ → Type 0
Grows old new bytes = new ≡ old ++ bytes

-- a read returned no byte, though the buffer wasn't empty
abbrev pub is_end : {E : Type 0} → Result ℕ E → List ℕ → Bool
is_end (Ok n) buf = n == 0 && nat_lt 0 (length buf)
is_end (Err e) buf = false

-- revealed bytes stay as they were, or are no longer revealed
abbrev pub KeepsOrHides : Option (List ℕ) → Option (List ℕ) → Type 0
KeepsOrHides None new = ⊤
KeepsOrHides (Some xs) None = ⊤
KeepsOrHides (Some xs) (Some ys) = ys ≡ xs

-- a read put the next n bytes at the start of the buffer at `Ok(n)`; none only at the end or if the
-- buffer is empty
abbrev pub SourceStep : {E : Type 0} → Option (List ℕ) → Option (List ℕ) → Result ℕ E
    → List ℕ → Type 0
SourceStep old new r buf =
    MatchResult r
    (λ n. Consumes old new (take n buf) × (n ≡ 0 → 0 < length buf → IsAtEnd new))
    (λ _. KeepsOrHides old new)

-- the bytes returned are those left before without those left after, if the source reveals both
abbrev pub HandsOut : Option (List ℕ) → Option (List ℕ) → List ℕ → Type 0
HandsOut None new bytes = ⊤
HandsOut (Some xs) None bytes = ⊤
HandsOut (Some xs) (Some ys) bytes = xs ≡ bytes ++ ys

-- a source that revealed its bytes still reveals them
abbrev pub TellsOn : Option (List ℕ) → Option (List ℕ) → Type 0
TellsOn None new = ⊤
TellsOn (Some xs) None = ⊥
TellsOn (Some xs) (Some ys) = ⊤

-- reading stopped at the end or at the limit
abbrev pub Stops : Option (List ℕ) → List ℕ → ℕ → Type 0
Stops new bs limit = IsAtEnd new ⊎ (length bs ≡ limit)

-- a write accepted the first n bytes at `Ok(n)`
abbrev pub SinkStep : {E : Type 0} → Option (List ℕ) → Option (List ℕ) → Result ℕ E
    → List ℕ → Type 0
SinkStep old new r bytes =
    MatchResult r (λ n. Appends old new (take n bytes)) (λ _. KeepsOrHides old new)

-- if the sink reveals its bytes before and after, it has accepted a prefix of these
abbrev pub HasTakenPrefix : Option (List ℕ) → Option (List ℕ) → List ℕ → Type 0
HasTakenPrefix None new bytes = ⊤
HasTakenPrefix (Some xs) None bytes = ⊤
HasTakenPrefix (Some xs) (Some ys) bytes =
    (k : ℕ) × (k ≤ length bytes) × (ys ≡ xs ++ take k bytes)

-- it has accepted the text without the rest
abbrev pub HasTakenBut : Option (List ℕ) → Option (List ℕ) → List ℕ → List ℕ
    → Type 0
HasTakenBut old new rest text = (sent : List ℕ) × Appends old new sent × (sent ++ rest ≡ text)

-- the same about the bytes that a sink's writes accepted
abbrev pub HasWrittenPrefix : List ℕ → List ℕ → List ℕ → Type 0
HasWrittenPrefix old new bytes = HasTakenPrefix (Some old) (Some new) bytes

-- and about the text without the rest
abbrev pub HasWrittenBut : List ℕ → List ℕ → List ℕ → List ℕ → Type 0
HasWrittenBut old new rest text = HasTakenBut (Some old) (Some new) rest text

-- the std reader or writer of a device over one
abbrev pub from_read_inner : {R : Type 0} → FromRead R → R
from_read_inner r = r.inner

abbrev pub to_write_inner : {W : Type 0} → ToWrite W → W
to_write_inner w = w.inner
