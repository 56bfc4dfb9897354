-- Whether a log is possible, and a UID possible or certain, can be decided.
use Rattle.vic_verdict.proofs.Words.{◌≡◌, ℕ, ◌<◌, List, [], ◌∷◌, Bool, true, ◌&&◌, inl, inr, ◌↔◌, trans, and_parts, CouldHaveGiven-slots, MeetsAll-iff, with_member, has_with_member, IsPossible, IsPossibleUid, IsCertainUid, Entry, slots_of, Slot, is_open, SuppliesAll, IsForcedBy, Some, answering, length, reading_of, slice_get, slice_get_within}
use Rattle.vic_verdict.proofs.Entries.{EntryAsks, SuppliesBefore, SuppliesAll-places}
use Rattle.vic_verdict.proofs.Search.{Either, test_either, and_either, iff_either}
use Rattle.vic_verdict.proofs.Populations.{asks_either, ArePossible-iff, MeetsAll-with_member, MustHave-iff, MustHave-cases, population_without, uid_end, open_below}
use Rattle.vic_verdict.proofs.Possibility.{IsPossible-slots, IsCertainUid-slots}

supplies_either : (set : ℕ → Bool) (slots : List Slot) (n : ℕ) → ((w : ℕ) → set w ≡ true → w < n) → Either (SuppliesAll set slots)
supplies_either set [] n b = inl tt
supplies_either set (s ∷ slots) n b =
    and_either (asks_either s.reading (λ w. set w && s.answers w) n (λ w h. b w (and_parts _ _ h).0)) (supplies_either set slots n b)

pub IsPossible-iff : (es : List Entry) → IsPossible es ↔ SuppliesAll (is_open (slots_of es)) (slots_of es)
IsPossible-iff es = trans (IsPossible-slots es) (ArePossible-iff (slots_of es))

pub IsPossible-either : (es : List Entry) → Either (IsPossible es)
IsPossible-either es = iff_either (IsPossible-iff es) (supplies_either (is_open (slots_of es)) (slots_of es) uid_end (open_below (slots_of es)))

-- a UID is possible where it is open
pub IsPossibleUid-iff : (es : List Entry) (u : ℕ) → IsPossible es → IsPossibleUid es u ↔ (is_open (slots_of es) u ≡ true)
IsPossibleUid-iff es u p =
    let q = (IsPossible-slots es).0 p in
    simp CouldHaveGiven-slots (
      (λ r. ((MeetsAll-iff r.0 (slots_of es) r.1).0 r.2).0 u r.3),
      (λ h. let w = MeetsAll-with_member q.0 (slots_of es) u q.1 q.2 h in (with_member u q.0, w.0, w.1, has_with_member u q.0)),
    )

pub IsPossibleUid-either : (es : List Entry) (u : ℕ) → IsPossible es → Either (IsPossibleUid es u)
IsPossibleUid-either es u p = iff_either (IsPossibleUid-iff es u p) (test_either (is_open (slots_of es) u))

-- a possible log's UID is certain where a slot forces it
pub IsCertainUid-iff : (es : List Entry) (u : ℕ) → IsPossible es → IsCertainUid es u ↔ IsForcedBy (is_open (slots_of es)) (slots_of es) u
IsCertainUid-iff es u p = trans (IsCertainUid-slots es u) (MustHave-iff (slots_of es) u ((IsPossible-slots es).0 p))

pub IsCertainUid-either : (es : List Entry) (u : ℕ) → IsPossible es → Either (IsCertainUid es u)
IsCertainUid-either es u p = elim (MustHave-cases (slots_of es) u ((IsPossible-slots es).0 p)) [
  | inl a ↦ let r = population_without (slots_of es) u a in inr (λ h. r.3 ((IsCertainUid-slots es u).0 h r.0 r.1 r.2))
  | inr f ↦ inl ((IsCertainUid-iff es u p).1 f)
]

-- ---- what is asked of the open UIDs is what makes a log possible

pub supplied_all : (es : List Entry) → SuppliesBefore (is_open (slots_of es)) es (length es) → IsPossible es
supplied_all es h = (IsPossible-iff es).1 ((SuppliesAll-places (is_open (slots_of es)) es (length es)).1 h)

pub supplied_each : (es : List Entry) (i : ℕ) (e : Entry) → slice_get es i ≡ Some e → IsPossible es → EntryAsks (reading_of e) (answering (is_open (slots_of es)) es i)
supplied_each es i e k possible =
    (SuppliesAll-places (is_open (slots_of es)) es (length es)).0 ((IsPossible-iff es).0 possible) i e (slice_get_within es i e k) k
