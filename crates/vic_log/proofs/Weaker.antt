-- What weaker entries keep: rounds, Quiet tags, listed UIDs, and the populations that could have produced them.
use Rattle.vic_log.proofs.Words.{◌≡◌, ℕ, zero, suc, ◌+◌, ◌<◌, ◌⊎◌, inl, inr, List, [], ◌∷◌, length, true, Option, Some, refl, sym, ap, ◌∙◌, subst, ◌↔◌, ⊎_elim, arith, nat_tests, eqb-true, eq-eqb, cases_lt, filter_agree, slice_get, slice_get_within, slice_get_past, slice_get-get_or, Entry, Silent, Collision, Heard, Listed, Garbled, Captured, Unknown, is_slot, ends_round, opener, wakes, is_quiet, answerers_at, answers_at, Fits, CouldHaveGiven, listed, has, outcome_of, Nobody, Lone, ◌==◌, false≢true}
use Rattle.vic_log.specs.Quiet.{silences}
use Rattle.vic_log.specs.Rounds.{mask_at, mask_of_slot}
use Rattle.vic_log.specs.Weaker.{AreWeaker, IsWeaker, FitsMore, is_weaker}
use Rattle.vic_log.proofs.Sets.{has_here, has_at}

-- ---- one slot line

some_answer : (u : ℕ) (us : List ℕ) → has us u ≡ true → outcome_of us ≡ Nobody → ⊥
some_answer u [] h k = absurd (false≢true h)
some_answer u (x ∷ []) h k = cc
some_answer u (x ∷ y ∷ us) h k = cc

lone_answers : (u v : ℕ) (us : List ℕ) → u == v ≡ true → outcome_of us ≡ Lone v → has us u ≡ true
lone_answers u v [] e k = cc
lone_answers u v (x ∷ []) e k = let same : x ≡ v = cc in has_at u x [] (eqb-true u v e ∙ sym same)
lone_answers u v (x ∷ y ∷ us) e k = cc

-- a slot line by the table fits what the other fits
weaker-fits : (d e : Entry) → is_weaker d e ≡ true → FitsMore d e
weaker-fits Unknown e w us f = tt
weaker-fits Silent Silent w us f = f
weaker-fits Collision Collision w us f = f
weaker-fits Garbled Garbled w us f = f
weaker-fits Garbled Collision w us f = λ none. cc
weaker-fits Garbled (Heard s) w us f = λ none. cc
weaker-fits Garbled (Captured s) w us f = some_answer s.uid us f
weaker-fits (Heard r) (Heard s) w us f = f ∙ ap Lone (sym (eqb-true r.uid s.uid w))
weaker-fits (Captured r) (Heard s) w us f = lone_answers r.uid s.uid us w f
weaker-fits (Captured r) (Captured s) w us f = subst (λ u. has us u ≡ true) (sym (eqb-true r.uid s.uid w)) f
weaker-fits d e w us f = absurd (false≢true w)

lone_has : (u v : ℕ) → has (v ∷ []) u ≡ true → u == v ≡ true
lone_has u v h = grind (arith, nat_tests)

others : (u v w : ℕ) → u < v → u < w → has (v ∷ w ∷ []) u ≡ true → ⊥
others u v w a b h = grind (arith, nat_tests, eqb-true)

-- what fits one and not the other, where it isn't by the table
fits-weaker : (d e : Entry) → is_slot d ≡ true → is_slot e ≡ true → FitsMore d e → is_weaker d e ≡ true
fits-weaker Unknown e s t f = refl
fits-weaker Silent Silent s t f = refl
fits-weaker Collision Collision s t f = refl
fits-weaker Garbled Garbled s t f = refl
fits-weaker Garbled Collision s t f = refl
fits-weaker Garbled (Heard q) s t f = refl
fits-weaker Garbled (Captured q) s t f = refl
fits-weaker (Heard r) (Heard q) s t f = let k = f (q.uid ∷ []) refl in let same : q.uid ≡ r.uid = cc in eq-eqb r.uid q.uid (sym same)
fits-weaker (Captured r) (Heard q) s t f = lone_has r.uid q.uid (f (q.uid ∷ []) refl)
fits-weaker (Captured r) (Captured q) s t f = lone_has r.uid q.uid (f (q.uid ∷ []) (has_here q.uid []))
fits-weaker d Silent s t f = let k = f [] refl in grind (arith, nat_tests)
fits-weaker (Captured r) Collision s t f = absurd (others r.uid (r.uid + 1) (r.uid + 2) (omega arith) (omega arith) (f ((r.uid + 1) ∷ (r.uid + 2) ∷ []) refl))
fits-weaker d Collision s t f = let k = f (0 ∷ 1 ∷ []) refl in grind (arith, nat_tests)
fits-weaker d (Heard q) s t f = let k = f (q.uid ∷ []) refl in grind (arith, nat_tests)
fits-weaker (Heard r) (Captured q) s t f = let k = f (q.uid ∷ q.uid ∷ []) (has_here q.uid (q.uid ∷ [])) in cc
fits-weaker d (Captured q) s t f = let k = f (q.uid ∷ []) (has_here q.uid []) in grind (arith, nat_tests)
fits-weaker (Captured r) Garbled s t f = absurd (others r.uid (r.uid + 1) (r.uid + 1) (omega arith) (omega arith) (f ((r.uid + 1) ∷ (r.uid + 1) ∷ []) (λ none. cc)))
fits-weaker (Heard r) Garbled s t f = let k = f (0 ∷ 1 ∷ []) (λ none. cc) in cc
fits-weaker d Garbled s t f = let k : Fits d (0 ∷ []) = f (0 ∷ []) (λ none. cc) in grind (arith, nat_tests)
fits-weaker Silent Unknown s t f = let k = f (0 ∷ []) tt in cc
fits-weaker d Unknown s t f = let k = f [] tt in grind (arith, nat_tests)
fits-weaker d e s t f = grind (arith, nat_tests)

pub weaker-iff : (d e : Entry) → is_slot d ≡ true → is_slot e ≡ true → (is_weaker d e ≡ true) ↔ FitsMore d e
weaker-iff d e s t = (weaker-fits d e, fits-weaker d e s t)

-- ---- at each position

abbrev pub SameOrSlots : Option Entry → Option Entry → Type 0
SameOrSlots o p = (o ≡ p) ⊎ ((d e : Entry) × (o ≡ Some d) × (p ≡ Some e) × (is_slot d ≡ true) × (is_slot e ≡ true))

at_some : (o p : Option Entry) (d e : Entry) → o ≡ Some d → p ≡ Some e → IsWeaker d e → SameOrSlots o p
at_some o p d e k l w = ⊎_elim (λ same. inl (k ∙ (ap Some same ∙ sym l))) (λ s. inr (d, e, k, l, s.0, s.1)) w

pub at_each : (ds es : List Entry) → AreWeaker ds es → (i : ℕ) → SameOrSlots (slice_get ds i) (slice_get es i)
at_each ds es w i = elim (cases_lt i (length ds)) [
  | inl below ↦
      let many = w.as_many in
      let k = slice_get-get_or ds i Silent below in
      let l = slice_get-get_or es i Silent (omega arith) in
      at_some _ _ _ _ k l (w.each i _ _ k l)
  | inr above ↦
      let many = w.as_many in
      inl (slice_get_past ds i above ∙ sym (slice_get_past es i (omega arith)))
]

same_ends : (o p : Option Entry) → SameOrSlots o p → ends_round o ≡ ends_round p
same_ends o p s = grind (arith, nat_tests)

same_silences : (o p : Option Entry) (u : ℕ) → SameOrSlots o p → silences o u ≡ silences p u
same_silences o p u s = grind (arith, nat_tests)

same_wakes : (o p : Option Entry) → SameOrSlots o p → wakes o ≡ wakes p
same_wakes o p s = grind (arith, nat_tests)

same_masks : (o p : Option Entry) (k : ℕ) → SameOrSlots o p → mask_of_slot o k ≡ mask_of_slot p k
same_masks o p k s = grind (arith, nat_tests)

-- ---- rounds, Quiet tags, listed UIDs

pub weaker_opener : (ds es : List Entry) → AreWeaker ds es → (i : ℕ) → opener ds i ≡ opener es i
weaker_opener ds es w zero = refl
weaker_opener ds es w (suc j) = let s = same_ends _ _ (at_each ds es w j) in grind (arith, nat_tests, weaker_opener ds es w j)

weaker_quiet : (ds es : List Entry) → AreWeaker ds es → (i u : ℕ) → is_quiet ds i u ≡ is_quiet es i u
weaker_quiet ds es w zero u = refl
weaker_quiet ds es w (suc j) u =
    let s = same_silences _ _ u (at_each ds es w j) in
    let k = same_wakes _ _ (at_each ds es w j) in
    grind (arith, nat_tests, weaker_quiet ds es w j u)

weaker_mask : (ds es : List Entry) → AreWeaker ds es → (i : ℕ) → mask_at ds i ≡ mask_at es i
weaker_mask ds es w i = grind (arith, nat_tests, weaker_opener ds es w i, same_masks, at_each ds es w)

pub weaker_answers : (ds es : List Entry) → AreWeaker ds es → (i u : ℕ) → answers_at ds i u ≡ answers_at es i u
weaker_answers ds es w i u = rw (weaker_mask ds es w i, weaker_quiet ds es w i u) refl

weaker_answerers : (ds es : List Entry) → AreWeaker ds es → (i : ℕ) (p : List ℕ) → answerers_at ds i p ≡ answerers_at es i p
weaker_answerers ds es w i p = filter_agree (answers_at ds i) (answers_at es i) (weaker_answers ds es w i) p

weaker-tail : (d e : Entry) (ds es : List Entry) → AreWeaker (d ∷ ds) (e ∷ es) → AreWeaker ds es
weaker-tail d e ds es w = record { as_many = let m = w.as_many in omega arith; each = λ i f g k l. w.each (suc i) f g k l }

slot_unlisted : (d : Entry) (ds : List Entry) → is_slot d ≡ true → listed (d ∷ ds) ≡ listed ds
slot_unlisted d ds s = grind (arith, nat_tests)

unlisted : (d e : Entry) (ds es : List Entry) → is_slot d ≡ true → is_slot e ≡ true → listed ds ≡ listed es → listed (d ∷ ds) ≡ listed (e ∷ es)
unlisted d e ds es s t same = slot_unlisted d ds s ∙ (same ∙ sym (slot_unlisted e es t))

same_head : (d e : Entry) (ds es : List Entry) → d ≡ e → listed ds ≡ listed es → listed (d ∷ ds) ≡ listed (e ∷ es)
same_head (Listed u) e ds es k same = subst (λ x. listed (Listed u ∷ ds) ≡ listed (x ∷ es)) k (ap (λ us. u ∷ us) same)
same_head d e ds es k same = grind (arith, nat_tests)

listed-more : (d e : Entry) (ds es : List Entry) → IsWeaker d e → listed ds ≡ listed es → listed (d ∷ ds) ≡ listed (e ∷ es)
listed-more d e ds es w same = ⊎_elim (λ k. same_head d e ds es k same) (λ s. unlisted d e ds es s.0 s.1 same) w

pub weaker_listed : (ds es : List Entry) → AreWeaker ds es → listed ds ≡ listed es
weaker_listed [] [] w = refl
weaker_listed [] (e ∷ es) w = let m = w.as_many in absurd (omega arith)
weaker_listed (d ∷ ds) [] w = let m = w.as_many in absurd (omega arith)
weaker_listed (d ∷ ds) (e ∷ es) w = listed-more d e ds es (w.each 0 d e refl refl) (weaker_listed ds es (weaker-tail d e ds es w))

-- ---- populations

weaker_fits : (d e : Entry) (us : List ℕ) → IsWeaker d e → Fits e us → Fits d us
weaker_fits d e us w f = ⊎_elim (λ same. subst (λ x. Fits x us) (sym same) f) (λ s. s.2 us f) w

pub weaker_given : (ds es : List Entry) → AreWeaker ds es → (p : List ℕ) → CouldHaveGiven p es → CouldHaveGiven p ds
weaker_given ds es w p g i d k =
    let many = w.as_many in
    let below = slice_get_within ds i d k in
    let l = slice_get-get_or es i Silent (omega arith) in
    subst (Fits d) (sym (weaker_answerers ds es w i p)) (weaker_fits d _ _ (w.each i d _ k l) (g i _ l))
