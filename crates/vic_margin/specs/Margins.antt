-- The margin of a log (profile): how often the UID was overlooked that was overlooked least often,
-- of those that aren't listed.
use Rattle.std.specs.Prelude.{◌≡◌, ℕ, ◌<◌, ◌≤◌, ◌^◌, true, false, List}
use Rattle.vic_frame.specs.declared.uid.TheConstants.{UID_BITS}
use Rattle.vic_frame.specs.Masks.{BitMask, lies_in}
use Rattle.vic_frame.specs.Uids.{IsUid, has}
use Rattle.vic_log.specs.declared.entry.Entry.{Entry}
use Rattle.vic_log.specs.Order.{listed}
use Rattle.vic_verdict.specs.Verdict.{IsFirstMask, IsLeast}
use Rattle.vic_margin.specs.declared.answer.Weakest.{Weakest}
use Rattle.vic_margin.specs.UidMargins.{margin_of}

-- a UID that isn't in the list has this margin
pub record IsMarginOfSome (es : List Entry) (us : List ℕ) (n : ℕ) : Type 0 where
  pub uid : ℕ
  pub is_uid : IsUid uid
  pub unlisted : has us uid ≡ false
  pub margin : margin_of es uid ≡ n

-- the margin of a log beside a list: the least of the UIDs that aren't in it
abbrev pub IsMarginBesides : List Entry → List ℕ → ℕ → Type 0
IsMarginBesides es us n = IsLeast (IsMarginOfSome es us) n

-- a mask of at most 56 bits all of whose UIDs aren't in the list and have this margin
pub record IsOfMargin (es : List Entry) (us : List ℕ) (n : ℕ) (m : BitMask) : Type 0 where
  pub short : m.len ≤ UID_BITS
  pub fits : m.value < 2 ^ m.len
  pub unlisted : (u : ℕ) → IsUid u → lies_in m u ≡ true → has us u ≡ false
  pub margin : (u : ℕ) → IsUid u → lies_in m u ≡ true → margin_of es u ≡ n

-- the margin of a log beside a list, and the first mask by length, then by value, of UIDs that have
-- it
pub record IsWeakestBesides (es : List Entry) (us : List ℕ) (w : Weakest) : Type 0 where
  pub margin : IsMarginBesides es us w.margin
  pub mask : IsFirstMask (IsOfMargin es us w.margin) w.mask

-- the same beside the list of the log itself
abbrev pub IsMargin : List Entry → ℕ → Type 0
IsMargin es n = IsMarginBesides es (listed es) n

abbrev pub IsWeakest : List Entry → Weakest → Type 0
IsWeakest es w = IsWeakestBesides es (listed es) w
