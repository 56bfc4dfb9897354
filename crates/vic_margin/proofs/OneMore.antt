-- One more silent round over all tags adds one to each margin of a tag that isn't Quiet.
use Rattle.vic_margin.proofs.Words.{◌≡◌, ◌∙◌, ◌<◌, ◌≤◌, ◌+◌, ◌-◌, ◌%◌, ◌==◌, ℕ, zero, suc, Bool, true, false, List, [], ◌∷◌, ◌++◌, length, map, replicate, Some, refl, sym, ap, arith, nat_tests, nat_lt, cases_Bool, inl, inr, slice_get, has, IsUid, Entry, Sent, Silent, Listed, is_quiet, is_overlooked, margin_before, margin_of, one_if, mask_at}
use Rattle.std.proofs.Common.{append-nil}
use Rattle.std.proofs.Math.Bool.{and-false}
use Rattle.std.proofs.lemmas.Bool.{lt-ltb}
use Rattle.std.proofs.lemmas.List.{length-append, length-replicate}
use Rattle.vic_frame.specs.Masks.{lies_in}
use Rattle.vic_frame.specs.Slots.{mask_in, slot_count}
use Rattle.vic_frame.specs.declared.request.Request.{Request}
use Rattle.vic_log.proofs.Places.{agree_upto, quiet_agrees}
use Rattle.vic_log.proofs.Push.{listed-append}
use Rattle.vic_log.specs.Order.{listed}
use Rattle.vic_log.specs.Rounds.{opener}
use Rattle.vic_margin.specs.Margins.{IsMargin}
use Rattle.vic_margin.specs.SilentRounds.{over_all, silent_round}
use Rattle.vic_margin.proofs.More.{before_agrees, listed_margin}

get_behind : (es xs : List Entry) (i j : ℕ) → i ≡ j + length es → slice_get (es ++ xs) i ≡ slice_get xs j
get_behind [] xs i j h = let same : i ≡ j = omega (arith, h) in rw same refl
get_behind (e ∷ es) xs zero j h = absurd (omega (arith, h))
get_behind (e ∷ es) xs (suc i) j h = get_behind es xs i j (omega (arith, h))

get_silent : (n k : ℕ) → k < n → slice_get (replicate n Silent) k ≡ Some Silent
get_silent zero k h = absurd (omega (arith, h))
get_silent (suc n) zero h = refl
get_silent (suc n) (suc k) h = get_silent n k (omega (arith, h))

-- the entries with a round behind them
abbrev with_round : List Entry → Request → List Entry
with_round es q = es ++ Sent q ∷ replicate (slot_count q) Silent

sent_there : (es : List Entry) (q : Request) → slice_get (with_round es q) (length es) ≡ Some (Sent q)
sent_there es q = get_behind es _ (length es) 0 (omega arith)

silent_there : (es : List Entry) (q : Request) (k i : ℕ) → i ≡ suc k + length es → k < slot_count q → slice_get (with_round es q) i ≡ Some Silent
silent_there es q k i h lt = get_behind es _ i (suc k) h ∙ get_silent (slot_count q) k lt

opener_there : (es : List Entry) (q : Request) (k i : ℕ) → i ≡ suc k + length es → k ≤ slot_count q → opener (with_round es q) i ≡ Some (length es)
opener_there es q zero i h le =
    let same : i ≡ suc (length es) = omega (arith, h) in
    let sent = sent_there es q in
    rw same (grind (arith, nat_tests, sent))
opener_there es q (suc k) i h le =
    let j : ℕ = suc k + length es in
    let same : i ≡ suc j = omega (arith, h) in
    let silent = silent_there es q k j refl (omega (arith, le)) in
    let before = opener_there es q k j refl (omega (arith, le)) in
    rw same (grind (arith, nat_tests, silent, before))

quiet_there : (es : List Entry) (link : ℕ) (sixteen : Bool) (k i u : ℕ) → i ≡ suc k + length es → k ≤ slot_count (over_all link sixteen) → is_quiet es (length es) u ≡ false → is_quiet (with_round es (over_all link sixteen)) i u ≡ false
quiet_there es link sixteen zero i u h le ready =
    let q = over_all link sixteen in
    let same : i ≡ suc (length es) = omega (arith, h) in
    let sent = sent_there es q in
    let as_before : is_quiet es (length es) u ≡ is_quiet (with_round es q) (length es) u = quiet_agrees (length es) es (with_round es q) u (agree_upto es _ (length es) (omega arith)) in
    rw same (grind (arith, nat_tests, sent, as_before, ready))
quiet_there es link sixteen (suc k) i u h le ready =
    let q = over_all link sixteen in
    let j : ℕ = suc k + length es in
    let same : i ≡ suc j = omega (arith, h) in
    let silent = silent_there es q k j refl (omega (arith, le)) in
    let before = quiet_there es link sixteen k j u refl (omega (arith, le)) ready in
    rw same (grind (arith, nat_tests, silent, before))

mask_there : (es : List Entry) (q : Request) (k i : ℕ) → i ≡ suc k + length es → k < slot_count q → mask_at (with_round es q) i ≡ Some (mask_in q k)
mask_there es q k i h lt =
    let open_there = opener_there es q k i h (omega (arith, lt)) in
    let sent = sent_there es q in
    let slot : i - suc (length es) ≡ k = omega (arith, h) in
    let test = lt-ltb k (slot_count q) lt in
    rw (open_there, sent, slot, test) refl

overlooked_there : (es : List Entry) (link : ℕ) (sixteen : Bool) (k i u : ℕ) → i ≡ suc k + length es → k < slot_count (over_all link sixteen) → is_quiet es (length es) u ≡ false → is_overlooked (with_round es (over_all link sixteen)) i u ≡ lies_in (mask_in (over_all link sixteen) k) u
overlooked_there es link sixteen k i u h lt ready =
    let q = over_all link sixteen in
    let mask = mask_there es q k i h lt in
    let quiet = quiet_there es link sixteen k i u h (omega (arith, lt)) ready in
    let silent = silent_there es q k i h lt in
    rw (mask, quiet, silent) (grind (arith, nat_tests))

-- the slot in which a UID answers
abbrev own_slot : Bool → ℕ → ℕ
own_slot true u = u % 16
own_slot false u = 0

lies_own : (link : ℕ) (sixteen : Bool) (k u : ℕ) → k < slot_count (over_all link sixteen) → lies_in (mask_in (over_all link sixteen) k) u ≡ (k == own_slot sixteen u)
lies_own link true k u lt = grind (arith, nat_tests)
lies_own link false k u lt = grind (arith, nat_tests)

own_below : (link : ℕ) (sixteen : Bool) (u : ℕ) → own_slot sixteen u < slot_count (over_all link sixteen)
own_below link true u = omega arith
own_below link false u = omega arith

count_there : (es : List Entry) (link : ℕ) (sixteen : Bool) (k i u : ℕ) → i ≡ suc k + length es → k ≤ slot_count (over_all link sixteen) → is_quiet es (length es) u ≡ false
    → margin_before (with_round es (over_all link sixteen)) i u ≡ margin_of es u + one_if (nat_lt (own_slot sixteen u) k)
count_there es link sixteen zero i u h le ready =
    let q = over_all link sixteen in
    let same : i ≡ suc (length es) = omega (arith, h) in
    let old = before_agrees es (Sent q ∷ replicate (slot_count q) Silent) (length es) u (omega arith) in
    let sent : is_overlooked (with_round es q) (length es) u ≡ false = rw (sent_there es q) (and-false _) in
    rw (same, sent) (grind (arith, nat_tests, old))
count_there es link sixteen (suc k) i u h le ready =
    let q = over_all link sixteen in
    let j : ℕ = suc k + length es in
    let same : i ≡ suc j = omega (arith, h) in
    let before = count_there es link sixteen k j u refl (omega (arith, le)) ready in
    let here = overlooked_there es link sixteen k j u refl (omega (arith, le)) ready ∙ lies_own link sixteen k u (omega (arith, le)) in
    rw (same, here, before) (grind (arith, nat_tests))

pub one_more : (es : List Entry) (link : ℕ) (sixteen : Bool) (u : ℕ) → is_quiet es (length es) u ≡ false → margin_of (es ++ silent_round link sixteen) u ≡ margin_of es u + 1
one_more es link sixteen u ready =
    let q = over_all link sixteen in
    let slots = slot_count q in
    let long : length (es ++ silent_round link sixteen) ≡ suc slots + length es = let all = length-append es (silent_round link sixteen) in let few = length-replicate slots Silent in omega (arith, all, few) in
    let count = count_there es link sixteen slots _ u long (omega arith) ready in
    let all = lt-ltb _ slots (own_below link sixteen u) in
    count ∙ rw all refl

-- ---- the margin of a log

lists_none : (n : ℕ) → listed (replicate n Silent) ≡ []
lists_none zero = refl
lists_none (suc n) = lists_none n

same_list : (es : List Entry) (link : ℕ) (sixteen : Bool) (us : List ℕ) → listed (es ++ silent_round link sixteen ++ map Listed us) ≡ listed (es ++ map Listed us)
same_list es link sixteen us =
    let round = silent_round link sixteen in
    let none : listed round ≡ [] = lists_none (slot_count (over_all link sixteen)) in
    let front : listed (es ++ round) ≡ listed es = listed-append es round ∙ (ap (λ xs. listed es ++ xs) none ∙ append-nil (listed es)) in
    listed-append (es ++ round) (map Listed us) ∙ (ap (λ xs. xs ++ listed (map Listed us)) front ∙ sym (listed-append es (map Listed us)))

pub one_more_log : (es : List Entry) (link : ℕ) (sixteen : Bool) (us : List ℕ) (n : ℕ) → ((u : ℕ) → IsUid u → is_quiet es (length es) u ≡ true → has (listed (es ++ map Listed us)) u ≡ true) → IsMargin (es ++ map Listed us) n → IsMargin (es ++ silent_round link sixteen ++ map Listed us) (n + 1)
one_more_log es link sixteen us n quiet m =
    let old = es ++ map Listed us in
    let new = es ++ silent_round link sixteen ++ map Listed us in
    let ready : (u : ℕ) → IsUid u → has (listed old) u ≡ false → is_quiet es (length es) u ≡ false = λ u is out. elim (cases_Bool (is_quiet es (length es) u)) [
      | inl it ↦ let on = quiet u is it in cc
      | inr isnt ↦ isnt
    ] in
    let more : (u : ℕ) → IsUid u → has (listed old) u ≡ false → margin_of new u ≡ margin_of old u + 1 = λ u is out.
    listed_margin (es ++ silent_round link sixteen) us u ∙ (one_more es link sixteen u (ready u is out) ∙ ap (λ k. k + 1) (sym (listed_margin es us u))) in
    let list = same_list es link sixteen us in (
      record { uid = m.0.uid; is_uid = m.0.is_uid; unlisted = ap (λ xs. has xs m.0.uid) list ∙ m.0.unlisted; margin = more m.0.uid m.0.is_uid m.0.unlisted ∙ ap (λ k. k + 1) m.0.margin },
      λ k some.
          let out = ap (λ xs. has xs some.uid) (sym list) ∙ some.unlisted in
          let e = some.margin in
          let f = more some.uid some.is_uid out in
          let least = m.1 (margin_of old some.uid) (record { uid = some.uid; is_uid = some.is_uid; unlisted = out; margin = refl }) in
          omega (arith, e, f, least),
    )
