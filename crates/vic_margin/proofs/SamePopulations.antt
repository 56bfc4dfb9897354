-- Where a cautious reading opens no UID, the same populations could have produced it.
use Rattle.vic_margin.proofs.Words.{◌≡◌, ◌∙◌, ◌&&◌, ◌↔◌, ℕ, Bool, List, [], ◌∷◌, zero, length, Option, Some, None, refl, suc, sym, ap, subst, arith, and_parts, slice_get, has, Entry, Sent, Silent, Collision, Heard, Listed, Garbled, FieldCycle, Captured, Unknown, answers_at}
use Rattle.std.proofs.Common.{drop}
use Rattle.std.proofs.lemmas.Bool.{and_from}
use Rattle.vic_frame.specs.Masks.{BitMask}
use Rattle.vic_log.proofs.Cautious.{deaf_weaker, deaf_weaker_self, hidden_weaker}
use Rattle.vic_log.proofs.Places.{CouldHaveGiven-slots}
use Rattle.vic_log.proofs.Sets.{IsWithin}
use Rattle.vic_log.proofs.Supply.{MeetsAll-iff, asks_within}
use Rattle.vic_log.proofs.Weaker.{weaker_answers, weaker_given}
use Rattle.vic_log.specs.Deaf.{answers, captured, deaf_entries, deaf_entry, hidden_entries}
use Rattle.vic_log.specs.Populations.{CouldHaveGiven, IsPopulation}
use Rattle.vic_log.specs.Slots.{Reading, is_open, reading_of, slots_of}
use Rattle.vic_log.specs.Weaker.{AreWeaker}
use Rattle.vic_verdict.proofs.Decide.{IsPossibleUid-iff}
use Rattle.vic_verdict.proofs.Entries.{EntryAsks, SuppliesBefore, SuppliesAll-places}
use Rattle.vic_verdict.proofs.Masks.{IsUid-in, lies_in-uid_in, uid_in}
use Rattle.vic_verdict.specs.Possible.{IsPossible, IsPossibleUid}
use Rattle.vic_margin.specs.Readings.{AreReadings, IsFirstOpened}
use Rattle.vic_margin.specs.declared.answer.Readings.{Readings}

-- ---- the readings, entry by entry

hidden_at : (es : List Entry) (i : ℕ) (e : Entry) → slice_get es i ≡ Some e → slice_get (hidden_entries es) i ≡ Some (captured e)
hidden_at [] i e k = cc
hidden_at (f ∷ es) zero e k = let same : f ≡ e = cc in ap (λ x. Some (captured x)) same
hidden_at (f ∷ es) (suc i) e k = hidden_at es i e k

deaf_at : (es : List Entry) (i : ℕ) (e : Entry) → slice_get es i ≡ Some e → slice_get (deaf_entries es) i ≡ Some (deaf_entry e (answers (drop (suc i) es)))
deaf_at [] i e k = cc
deaf_at (f ∷ es) zero e k = let same : f ≡ e = cc in ap (λ x. Some (deaf_entry x (answers es))) same
deaf_at (f ∷ es) (suc i) e k = deaf_at es i e k

-- ---- what a reading asks for, the entry asks for

asks_captured : (e : Entry) (t : ℕ → Bool) → EntryAsks (reading_of (captured e)) t → EntryAsks (reading_of e) t
asks_captured (Heard r) t a = a
asks_captured (Captured r) t a = a
asks_captured Collision t a = a
asks_captured Garbled t a = a
asks_captured Silent t a = a
asks_captured Unknown t a = a
asks_captured (Sent q) t a = a
asks_captured (Listed u) t a = a
asks_captured FieldCycle t a = a

asks_deaf : (e : Entry) (n : ℕ) (t : ℕ → Bool) → EntryAsks (reading_of (deaf_entry e n)) t → EntryAsks (reading_of e) t
asks_deaf (Heard r) n t a = a
asks_deaf (Captured r) n t a = a
asks_deaf Collision n t a = a
asks_deaf Garbled n t a = a
asks_deaf Silent n t a = tt
asks_deaf Unknown n t a = a
asks_deaf (Sent q) n t a = a
asks_deaf (Listed u) n t a = a
asks_deaf FieldCycle n t a = a

asks_more : (o : Option Reading) (s t : ℕ → Bool) → IsWithin s t → EntryAsks o s → EntryAsks o t
asks_more None s t w a = tt
asks_more (Some r) s t w a = asks_within r s t w a

-- ---- the same populations

-- of a set, the UIDs that answer in a slot
abbrev answering : (ℕ → Bool) → List Entry → ℕ → ℕ → Bool
answering set es i u = set u && answers_at es i u

-- at each position of the entries the reading asks for no less
abbrev AsksNoLess : List Entry → List Entry → Type 0
AsksNoLess ds es = (i : ℕ) (e : Entry) (t : ℕ → Bool) → slice_get es i ≡ Some e → (d : Entry) × (slice_get ds i ≡ Some d) × (EntryAsks (reading_of d) t → EntryAsks (reading_of e) t)

supplied : (ds es : List Entry) (set : ℕ → Bool) → AreWeaker ds es → AsksNoLess ds es → SuppliesBefore set ds (length ds) → SuppliesBefore set es (length es)
supplied ds es set w asks h i e lt k =
    let d = asks i e (answering set es i) k in
    let many = w.as_many in
    let within : IsWithin (answering set ds i) (answering set es i) = λ u a. let both = and_parts (set u) (answers_at ds i u) a in and_from (set u) (answers_at es i u) both.0 (sym (weaker_answers ds es w i u) ∙ both.1) in
    d.2 (asks_more (reading_of d.0) _ _ within (h i d.0 (omega arith) d.1))

same_given : (ds es : List Entry) → AreWeaker ds es → AsksNoLess ds es → IsPossible es → IsFirstOpened ds es None → (p : List ℕ) → IsPopulation p → CouldHaveGiven p ds ↔ CouldHaveGiven p es
same_given ds es w asks possible none p pop = (
  (λ given.
      let both = (MeetsAll-iff p (slots_of ds) pop).0 ((CouldHaveGiven-slots p ds).0 given) in
      let all = supplied ds es (has p) w asks ((SuppliesAll-places (has p) ds (length ds)).0 both.1) in
      let within : IsWithin (has p) (is_open (slots_of es)) = λ u h. (IsPossibleUid-iff es u possible).0 (none u (p, pop, given, h)) in
      (CouldHaveGiven-slots p es).1 ((MeetsAll-iff p (slots_of es) pop).1 (within, (SuppliesAll-places (has p) es (length es)).1 all))),
  (λ given. weaker_given ds es w p given),
)

pub same_hidden : (es : List Entry) → IsPossible es → IsFirstOpened (hidden_entries es) es None → (p : List ℕ) → IsPopulation p → CouldHaveGiven p (hidden_entries es) ↔ CouldHaveGiven p es
same_hidden es = same_given (hidden_entries es) es (hidden_weaker es) (λ i e t k. (captured e, hidden_at es i e k, asks_captured e t))

pub same_deaf : (es : List Entry) → IsPossible es → IsFirstOpened (deaf_entries es) es None → (p : List ℕ) → IsPopulation p → CouldHaveGiven p (deaf_entries es) ↔ CouldHaveGiven p es
same_deaf es = same_given (deaf_entries es) es (deaf_weaker_self es) (λ i e t k. (deaf_entry e (answers (drop (suc i) es)), deaf_at es i e k, asks_deaf e _ t))

-- ---- the hidden reading opens no more than the deaf one

opens_none : (ds es : List Entry) (m : Option BitMask) → IsFirstOpened ds es m → ((u : ℕ) → IsPossibleUid ds u → IsPossibleUid es u) → m ≡ None
opens_none ds es None f h = refl
opens_none ds es (Some m) f h =
    let o = f.0 in
    let u = uid_in m in
    let is = IsUid-in m o.short o.fits in
    let lies = lies_in-uid_in m o.short o.fits in
    absurd (o.only_here u is lies (h u (o.here u is lies)))

pub deaf_opens_most : (es : List Entry) (r : Readings) → AreReadings es r → r.deaf ≡ None → r.hidden ≡ None
deaf_opens_most es r told none =
    let all : IsFirstOpened (deaf_entries es) es None = subst (IsFirstOpened (deaf_entries es) es) none told.deaf in
    opens_none (hidden_entries es) es r.hidden told.hidden (λ u may. all u (may.0, may.1, weaker_given _ _ (deaf_weaker es) may.0 may.2, may.3))
