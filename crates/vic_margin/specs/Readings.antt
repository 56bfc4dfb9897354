-- How much less a log proves if it is read more cautiously (profile): which UIDs the hidden and the
-- deaf reading leave open beside the log itself.
use Rattle.std.specs.Prelude.{◌≡◌, ℕ, ◌<◌, ◌≤◌, ◌^◌, true, Option, Some, None, MatchOption, List, ⊤}
use Rattle.vic_frame.specs.declared.uid.TheConstants.{UID_BITS}
use Rattle.vic_frame.specs.Masks.{BitMask, lies_in}
use Rattle.vic_frame.specs.Uids.{IsUid}
use Rattle.vic_log.specs.declared.entry.Entry.{Entry}
use Rattle.vic_log.specs.Deaf.{deaf_entries, hidden_entries}
use Rattle.vic_verdict.specs.Possible.{IsPossibleUid}
use Rattle.vic_verdict.specs.Verdict.{IsFirstMask, IsUnsettled, NoSuch}
use Rattle.vic_verdict.specs.declared.judging.Verdict.{Verdict}
use Rattle.vic_verdict.specs.declared.judging.Verdict.TheVariants.{Complete}
use Rattle.vic_margin.specs.declared.answer.Readings.{Readings}

-- a mask of at most 56 bits all of whose UIDs are possible in some entries, and not in others
pub record IsOpened (ds es : List Entry) (m : BitMask) : Type 0 where
  pub short : m.len ≤ UID_BITS
  pub fits : m.value < 2 ^ m.len
  pub here : (u : ℕ) → IsUid u → lies_in m u ≡ true → IsPossibleUid ds u
  pub only_here : (u : ℕ) → IsUid u → lies_in m u ≡ true → IsPossibleUid es u → ⊥

-- the first such mask by length, then by value; none if no UID is possible here alone
abbrev pub IsFirstOpened : List Entry → List Entry → Option BitMask → Type 0
IsFirstOpened ds es None = (u : ℕ) → IsPossibleUid ds u → IsPossibleUid es u
IsFirstOpened ds es (Some m) = IsFirstMask (IsOpened ds es) m

-- what the two readings leave open beside the entries
pub record AreReadings (es : List Entry) (r : Readings) : Type 0 where
  pub hidden : IsFirstOpened (hidden_entries es) es r.hidden
  pub deaf : IsFirstOpened (deaf_entries es) es r.deaf

-- the first mask of UIDs that are possible and not listed, none if there is none
abbrev pub IsFirstUnsettled : List Entry → Option BitMask → Type 0
IsFirstUnsettled ds m = MatchOption m (NoSuch (IsUnsettled ds)) (IsFirstMask (IsUnsettled ds))

-- what the two readings leave unsettled
pub record AreUnsettled (es : List Entry) (r : Readings) : Type 0 where
  pub hidden : IsFirstUnsettled (hidden_entries es) r.hidden
  pub deaf : IsFirstUnsettled (deaf_entries es) r.deaf

-- that, of entries with a complete list; nothing of others
abbrev pub AreReadingsIfComplete : List Entry → Verdict → Option Readings → Type 0
AreReadingsIfComplete es (Complete count) (Some r) = AreUnsettled es r
AreReadingsIfComplete es (Complete count) None = ⊥
AreReadingsIfComplete es v (Some r) = ⊥
AreReadingsIfComplete es v None = ⊤
