-- How a list differs from what logs tell, and that the first difference is the verdict.
use Rattle.vic_verdict.proofs.Words.{◌≡◌, ℕ, ◌≤◌, ◌<◌, ◌^◌, List, ◌++◌, Bool, true, false, not, ◌&&◌, ◌||◌, Option, Some, None, sym, ap, ◌∙◌, arith, nat_tests, ◌↔◌, ◌⊎◌, IfSome, IfNone, MatchOption, both_ways, list_any-append, IsUid, has, BitMask, lies_in, SameUids, Entry, listed, AreKeysOf, IsPossible, IsPossibleUid, IsCertainUid, IsFailing, IsListOf, SameMembers, IsAbsent, IsUnlisted, IsUnsettled, IsDoubtful, IsLeast, IsFirstMask, NoSuch, IsWidest, without_keys, UID_BITS, widest_same, AreOpenAndCertain}
use Rattle.vic_verdict.specs.declared.differences.Differences.{Differences}
use Rattle.vic_verdict.specs.Differences.{AreDifferences, IsLeftOpen, MayBeMissing, left_by}
use Rattle.vic_verdict.proofs.Decide.{IsPossibleUid-iff, IsPossibleUid-either, IsCertainUid-iff}
use Rattle.vic_verdict.proofs.Failing.{list_as}
use Rattle.vic_verdict.proofs.Masks.{uid_in, IsUid-in, lies_in-uid_in}

-- ---- the differences, by the steps of `compare`

-- the listed UIDs and the unlisted ones are the listed and the certain ones
pub known_has : (us certain unlisted : List ℕ) (u : ℕ) → IsListOf (IsFailing certain (has us)) unlisted → has (us ++ unlisted) u ≡ (has certain u || has us u)
known_has us certain unlisted u new = grind (arith, nat_tests, list_any-append, new.members u)

pub absent_by : (set : ℕ → Bool) (us certain known outside absent : List ℕ) → ((u : ℕ) → has known u ≡ (has certain u || has us u)) → IsListOf (IsFailing known set) outside → IsListOf (IsFailing outside (has certain)) absent
    → IsListOf (λ u. IsFailing us set u × (has certain u ≡ false)) absent
absent_by set us certain known outside absent all out l =
    list_as _ _ absent (λ u. grind (arith, nat_tests, all u, out.members u)) l

pub doubtful_by : (set : ℕ → Bool) (us certain uncertain absent doubtful : List ℕ) → IsListOf (IsFailing us (has certain)) uncertain → IsListOf (λ u. IsFailing us set u × (has certain u ≡ false)) absent → IsListOf (IsFailing uncertain (has absent)) doubtful
    → IsListOf (λ u. (has us u ≡ true) × (set u ≡ true) × (has certain u ≡ false)) doubtful
doubtful_by set us certain uncertain absent doubtful un out l =
    list_as _ _ doubtful (λ u. grind (arith, nat_tests, un.members u, out.members u)) l

pub unsettled_by : (set : ℕ → Bool) (us certain known keys : List ℕ) (m : Option BitMask) → ((u : ℕ) → has known u ≡ (has certain u || has us u)) → AreKeysOf keys known
    → IfSome m (IsWidest (without_keys set keys)) → IfNone m (SameUids (without_keys set keys) (λ _. false))
    → MatchOption m (SameUids (left_by set certain us) (λ _. false)) (IsWidest (left_by set certain us))
unsettled_by set us certain known keys None all own found empty = λ u i. sym (ap (λ b. set u && not b) (own.members u i ∙ all u)) ∙ empty u i
unsettled_by set us certain known keys (Some m) all own found empty = widest_same (without_keys set keys) (left_by set certain us) m (λ u i. ap (λ b. set u && not b) (own.members u i ∙ all u)) found

-- ---- the same by the UIDs that may be there and those that must

-- the set and the list tell them
pub record AreFacts (P C : ℕ → Type 0) (set : ℕ → Bool) (certain : List ℕ) : Type 0 where
  pub may : (u : ℕ) → IsUid u → ((set u ≡ true) ⊎ (has certain u ≡ true)) ↔ P u
  pub must : IsListOf C certain
  pub sure : (u : ℕ) → C u → P u

-- the list has the members of another
pub record AreListed (us all : List ℕ) : Type 0 where
  pub members : SameMembers us all
  pub are_uids : (u : ℕ) → has us u ≡ true → IsUid u

pub open_iff : (P C : ℕ → Type 0) (set : ℕ → Bool) (certain : List ℕ) (u : ℕ) → AreFacts P C set certain → IsUid u → ((set u ≡ true) × (has certain u ≡ false)) ↔ (P u × (C u → ⊥))
open_iff P C set certain u f i = grind (arith, nat_tests, f.may u i, f.must.members u)

absent_iff : (P C : ℕ → Type 0) (set : ℕ → Bool) (certain us all : List ℕ) → AreFacts P C set certain → AreListed us all → (u : ℕ) → (IsFailing us set u × (has certain u ≡ false)) ↔ ((has all u ≡ true) × (P u → ⊥))
absent_iff P C set certain us all f l u = grind (arith, nat_tests, l.members u, l.are_uids u, f.may u)

unlisted_iff : (P C : ℕ → Type 0) (set : ℕ → Bool) (certain us all : List ℕ) → AreFacts P C set certain → AreListed us all → (u : ℕ) → IsFailing certain (has us) u ↔ (C u × (has all u ≡ false))
unlisted_iff P C set certain us all f l u = grind (arith, l.members u, f.must.members u)

doubtful_iff : (P C : ℕ → Type 0) (set : ℕ → Bool) (certain us all : List ℕ) → AreFacts P C set certain → AreListed us all → (u : ℕ) → ((has us u ≡ true) × (set u ≡ true) × (has certain u ≡ false)) ↔ ((has all u ≡ true) × (P u × (C u → ⊥)))
doubtful_iff P C set certain us all f l u = grind (arith, nat_tests, l.members u, l.are_uids u, open_iff P C set certain u f)

left_iff : (P C : ℕ → Type 0) (set : ℕ → Bool) (certain us all : List ℕ) → AreFacts P C set certain → AreListed us all → (u : ℕ) → IsUid u → (left_by set certain us u ≡ true) ↔ ((P u × (C u → ⊥)) × (has all u ≡ false))
left_iff P C set certain us all f l u i = grind (arith, nat_tests, l.members u, open_iff P C set certain u f i)

-- a mask of at most 56 bits all of whose UIDs may be there, may be missing, and aren't listed
abbrev pub IsLeft : (P C : ℕ → Type 0) → List ℕ → BitMask → Type 0
IsLeft P C all m = (m.len ≤ UID_BITS) × (m.value < 2 ^ m.len) × ((u : ℕ) → IsUid u → lies_in m u ≡ true → (P u × (C u → ⊥)) × (has all u ≡ false))

first_left : (P C : ℕ → Type 0) (set : ℕ → Bool) (certain us all : List ℕ) (m : Option BitMask) → AreFacts P C set certain → AreListed us all
    → MatchOption m (SameUids (left_by set certain us) (λ _. false)) (IsWidest (left_by set certain us)) → MatchOption m (NoSuch (IsLeft P C all)) (IsFirstMask (IsLeft P C all))
first_left P C set certain us all None f l none = λ m h.
    let i = IsUid-in m h.0 h.1 in
    both_ways _ (none (uid_in m) i) ((left_iff P C set certain us all f l (uid_in m) i).1 (h.2 (uid_in m) i (lies_in-uid_in m h.0 h.1)))
first_left P C set certain us all (Some m) f l w = (
  (w.short, w.is_mask.1, λ u i k. (left_iff P C set certain us all f l u i).0 (w.open_throughout u i k)),
  λ k h. let short = h.0 in let fits = h.1 in w.least k (omega arith, fits) short (λ u i n. (left_iff P C set certain us all f l u i).1 (h.2 u i n)),
)

-- the differences are the findings
pub record AreAllFindings (P C : ℕ → Type 0) (all : List ℕ) (d : Differences) : Type 0 where
  pub absent : IsListOf (λ u. (has all u ≡ true) × (P u → ⊥)) d.absent
  pub unlisted : IsListOf (λ u. C u × (has all u ≡ false)) d.unlisted
  pub unsettled : MatchOption d.unsettled (NoSuch (IsLeft P C all)) (IsFirstMask (IsLeft P C all))
  pub doubtful : IsListOf (λ u. (has all u ≡ true) × (P u × (C u → ⊥))) d.doubtful

pub all_findings : (P C : ℕ → Type 0) (set : ℕ → Bool) (certain us all : List ℕ) (d : Differences) → AreFacts P C set certain → AreListed us all → AreDifferences set certain us d → AreAllFindings P C all d
all_findings P C set certain us all d f l h = record {
  absent = list_as _ _ d.absent (absent_iff P C set certain us all f l) h.absent;
  unlisted = list_as _ _ d.unlisted (unlisted_iff P C set certain us all f l) h.unlisted;
  unsettled = first_left P C set certain us all d.unsettled f l h.unsettled;
  doubtful = list_as _ _ d.doubtful (doubtful_iff P C set certain us all f l) h.doubtful;
}

-- ---- what one log tells

pub log_facts : (es : List Entry) (set : ℕ → Bool) (certain : List ℕ) → AreOpenAndCertain es set certain → AreFacts (IsPossibleUid es) (IsCertainUid es) set certain
log_facts es set certain t = record {
  may = λ u i. grind (arith, IsPossibleUid-iff es u t.possible, t.uids_open u i, must.members u, sure u);
  must = must;
  sure = sure;
}
  where
    must : IsListOf (IsCertainUid es) certain
    must = list_as _ (IsCertainUid es) certain (λ u. let w = IsCertainUid-iff es u t.possible in (w.1, w.0)) t.forced

    sure : (u : ℕ) → IsCertainUid es u → IsPossibleUid es u
    sure u c = let p = t.possible in (p.0, p.1, p.2, c p.0 p.1 p.2)

-- ---- the findings that no earlier ones go before

-- where none is unlisted, the masks are the unsettled ones
mask_iff : (es : List Entry) → NoSuch (IsUnlisted es) → (m : BitMask) → IsLeftOpen es m ↔ IsUnsettled es m
mask_iff es none m = grind (arith, none)

pub first_mask : (es : List Entry) (m : BitMask) → NoSuch (IsUnlisted es) → IsFirstMask (IsLeftOpen es) m → IsFirstMask (IsUnsettled es) m
first_mask es m none h = ((mask_iff es none m).0 h.0, λ k g. h.1 k ((mask_iff es none k).1 g))

pub none_unsettled : (es : List Entry) → NoSuch (IsUnlisted es) → NoSuch (IsLeftOpen es) → NoSuch (IsUnsettled es)
none_unsettled es none left m h = left m ((mask_iff es none m).1 h)

-- where none is absent, a listed UID that isn't certain may be missing
pub missing_or_absent : (es : List Entry) (u : ℕ) → NoSuch (IsAbsent es) → (MayBeMissing es u → ⊥) → IsDoubtful es u → ⊥
missing_or_absent es u present none d = present u (d.0, λ possible. none (d.0, (possible, d.1)))

pub missing_least : (es : List Entry) (u : ℕ) → IsPossible es → NoSuch (IsAbsent es) → IsLeast (MayBeMissing es) u → IsLeast (IsDoubtful es) u
missing_least es u possible present h = grind (arith, present, IsPossibleUid-either es)

-- ---- the findings of one log, each by what the judge has of it

pub record AreFindings (es : List Entry) (set : ℕ → Bool) (certain us : List ℕ) : Type 0 where
  pub absent : (u : ℕ) → IsFailing us set u ↔ IsAbsent es u
  pub unlisted : (u : ℕ) → IsFailing certain (has us) u ↔ IsUnlisted es u
  pub doubtful : (u : ℕ) → IsFailing us (has certain) u ↔ IsDoubtful es u
  pub unsettled : (keys : List ℕ) (m : Option BitMask) → NoSuch (IsUnlisted es) → AreKeysOf keys us → IfSome m (IsWidest (without_keys set keys)) → IfNone m (SameUids (without_keys set keys) (λ _. false))
      → MatchOption m (NoSuch (IsUnsettled es)) (IsFirstMask (IsUnsettled es))

-- where the log tells the set and the certain UIDs, and the list has the listed ones
pub findings_of : (es : List Entry) (set : ℕ → Bool) (certain us : List ℕ) → AreOpenAndCertain es set certain → SameMembers us (listed es) → ((u : ℕ) → has us u ≡ true → IsUid u) → AreFindings es set certain us
findings_of es set certain us told members uids = record {
  absent = λ u. grind (arith, nat_tests, members u, uids u, IsPossibleUid-iff es u told.possible, told.uids_open u);
  unlisted = unlisted_iff (IsPossibleUid es) (IsCertainUid es) set certain us (listed es) f l;
  doubtful = λ u. grind (arith, nat_tests, members u, f.must.members u);
  unsettled = λ keys m none own found empty. unsettled m none (first_left (IsPossibleUid es) (IsCertainUid es) set certain us (listed es) m f l (unsettled_by set us certain us keys m (all none) own found empty));
}
  where
    f : AreFacts (IsPossibleUid es) (IsCertainUid es) set certain
    f = log_facts es set certain told

    l : AreListed us (listed es)
    l = record { members = members; are_uids = uids }

    all : NoSuch (IsUnlisted es) → (u : ℕ) → has us u ≡ (has certain u || has us u)
    all none u = grind (arith, nat_tests, none u, members u, f.must.members u)

    unsettled : (m : Option BitMask) → NoSuch (IsUnlisted es) → MatchOption m (NoSuch (IsLeftOpen es)) (IsFirstMask (IsLeftOpen es)) → MatchOption m (NoSuch (IsUnsettled es)) (IsFirstMask (IsUnsettled es))
    unsettled None none h = none_unsettled es none h
    unsettled (Some k) none h = first_mask es k none h
