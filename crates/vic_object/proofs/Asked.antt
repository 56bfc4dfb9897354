-- What asks for masks, step by step.
use Rattle.std.proofs.Common.{◌≡◌, ◌∙◌, ℕ, zero, suc, ◌+◌, ◌-◌, ◌*◌, ◌%◌, ◌^◌, ◌<◌, ◌==◌, ◌&&◌, ◌||◌, ◌++◌, ◌∷◌, [], Bool, true, false, Option, Some, None, List, length, add-one, ap, refl, sym, subst, arith, get_or, slice_get, inl, inr, if◌then◌else◌}
use Rattle.std.specs.List.{Contains}
use Rattle.std.proofs.Common.{add_comm, eq-eqb, eqb-true, pow-add}
use Rattle.std.proofs.lemmas.Bool.{cases_lt}
use Rattle.std.proofs.lemmas.Bool.Decides.{nat_tests}
use Rattle.std.proofs.lemmas.Nat.{mod_low, mul-le}
use Rattle.vic_frame.proofs.MaskLaws.{mod_mod_pow}
use Rattle.std.proofs.lemmas.List.Elements.{Contains-append_cases}
use Rattle.vic_frame.specs.Masks.{BitMask, lies_in, slot_of_sixteen}
use Rattle.vic_frame.specs.declared.request.Request.{Request}
use Rattle.vic_frame.specs.declared.request.Request.TheVariants.{Inventory}
use Rattle.vic_log.specs.Rounds.{mask_at}
use Rattle.vic_log.specs.declared.entry.Entry.{Entry}
use Rattle.vic_object.specs.Asking.{asks_in, collided_before, collided_within_before, has_collided, has_collided_below, has_collided_within, is_collision, is_mask_of, is_one_within, is_same, is_within, of_slots}

-- ---- where tags collided

pub noted_more : (es : List Entry) (i : ℕ) (e : Entry) (n : Option BitMask) (m : BitMask) (new old : Bool) → slice_get es i ≡ Some e → n ≡ mask_at es i → new ≡ ((is_collision (Some e) && is_mask_of n m) || old) → old ≡ collided_before es i m → new ≡ collided_before es (i + 1) m
noted_more es i e n m new old here mask is before = is ∙ rw (add-one, here, mask, before) refl

pub none_below : (es : List Entry) (m : BitMask) → has_collided_below es m 0 ≡ false
unfolding has_collided_below
none_below es m = refl

pub one_below : (es : List Entry) (m : BitMask) (k : ℕ) → has_collided_below es m (k + 1) ≡ (has_collided es (slot_of_sixteen m k) || has_collided_below es m k)
unfolding has_collided_below
one_below es m k = rw add-one refl

neither : (a b : Bool) → (a || b) ≡ false → (a ≡ false) × (b ≡ false)
neither true b h = absurd (cc h)
neither false b h = (refl, h)

-- where tags collided in none of some slots, they collided in no one of them
pub no_slot : (es : List Entry) (m : BitMask) (n k : ℕ) → has_collided_below es m n ≡ false → k < n → has_collided es (slot_of_sixteen m k) ≡ false
unfolding has_collided_below
no_slot es m zero k h lt = absurd (omega (arith, lt))
no_slot es m (suc n) k h lt =
    let both = neither (has_collided es (slot_of_sixteen m n)) (has_collided_below es m n) h in
    elim (cases_lt k n) [
      | inl less ↦ no_slot es m n k both.1 less
      | inr from ↦
          let same : n ≡ k = omega (arith, lt, from) in
          subst (λ j. has_collided es (slot_of_sixteen m j) ≡ false) same both.0
    ]

-- where tags collided in a mask, they did within it
same_within : (m n : BitMask) → is_same n m ≡ true → is_within m n ≡ true
same_within m n h = grind (arith, nat_tests)

one_within : (o : Option BitMask) (m : BitMask) → is_mask_of o m ≡ true → is_one_within o m ≡ true
one_within None m h = absurd (cc h)
one_within (Some n) m h = same_within m n h

within_or : (a b c d x : Bool) → (b ≡ true → c ≡ true) → (d ≡ true → x ≡ true) → ((a && c) || x) ≡ false → ((a && b) || d) ≡ false
within_or a b c d x one rest h = grind (arith, nat_tests)

none_before : (es : List Entry) (i : ℕ) (m : BitMask) → collided_within_before es i m ≡ false → collided_before es i m ≡ false
none_before es zero m h = refl
none_before es (suc i) m h = let here = one_within (mask_at es i) m in let earlier = none_before es i m in grind (arith, nat_tests, here, earlier)

pub none_within : (es : List Entry) (m : BitMask) → has_collided_within es m ≡ false → has_collided es m ≡ false
none_within es m h = none_before es (length es) m h

pub within_more : (es : List Entry) (i : ℕ) (e : Entry) (n : Option BitMask) (m : BitMask) (new old : Bool) → slice_get es i ≡ Some e → n ≡ mask_at es i → new ≡ ((is_collision (Some e) && is_one_within n m) || old) → old ≡ collided_within_before es i m → new ≡ collided_within_before es (i + 1) m
within_more es i e n m new old here mask is before = is ∙ rw (add-one, here, mask, before) refl

-- ---- what asks for a mask

pub no_slots : (f : BitMask → List Request) (m : BitMask) → of_slots f m 0 ≡ []
unfolding of_slots
no_slots f m = refl

pub slots_more : (f : BitMask → List Request) (m : BitMask) (k : ℕ) → of_slots f m (k + 1) ≡ of_slots f m k ++ f (slot_of_sixteen m k)
unfolding of_slots
slots_more f m k = rw add-one refl

pub asks_parted : (es : List Entry) (t link : ℕ) (m : BitMask) → 0 < t → has_collided_below es m 16 ≡ true → asks_in es t link m ≡ of_slots (asks_in es (t - 1) link) m 16
asks_parted es zero link m some h = absurd (omega (arith, some))
asks_parted es (suc n) link m some h =
    let back : suc n - 1 ≡ n = omega arith in
    rw (h, back) refl

pub asks_one : (es : List Entry) (t link : ℕ) (m : BitMask) → 0 < t → has_collided_below es m 16 ≡ false → asks_in es t link m ≡ Inventory link (m.len == 0 || has_collided_within es m) m ∷ []
asks_one es zero link m some h = absurd (omega (arith, some))
asks_one es (suc n) link m some h = rw h refl

pub asks_none : (es : List Entry) (t link : ℕ) (m : BitMask) → t ≡ 0 → asks_in es t link m ≡ []
asks_none es zero link m h = refl
asks_none es (suc n) link m h = absurd (omega (arith, h))

-- ---- what is asked

slot_has : (f : BitMask → List Request) (m : BitMask) (n : ℕ) (q : Request) → Contains (of_slots f m n) q → (k : ℕ) × (k < n) × Contains (f (slot_of_sixteen m k)) q
unfolding of_slots
slot_has f m zero q c = absurd (omega (arith, c.1))
slot_has f m (suc n) q c = elim (Contains-append_cases (of_slots f m n) (f (slot_of_sixteen m n)) q c) [
  | inl old ↦ let r = slot_has f m n q old in (r.0, omega (arith, r.1), r.2)
  | inr new ↦ (n, omega arith, new)
]

only : {A : Type 0} (x y : A) → Contains (x ∷ []) y → y ≡ x
only x y c =
    let first : c.0 ≡ 0 = omega (arith, c.1) in
    sym c.2 ∙ ap (λ j. get_or (x ∷ []) j y) first

-- the value of a mask has no other bits
abbrev pub Fits : BitMask → Type 0
Fits m = m.value < 2 ^ m.len

slot_fits : (m : BitMask) (k : ℕ) → k < 16 → Fits m → Fits (slot_of_sixteen m k)
slot_fits m k lt fits = omega (arith, fits, mul-le k (2 ^ m.len) 15 (2 ^ m.len) (omega (arith, lt)) (omega arith), pow-add 2 m.len 4)

-- a slot of a mask has only UIDs of the mask
pub slot_within : (m : BitMask) (k u : ℕ) → Fits m → lies_in (slot_of_sixteen m k) u ≡ true → lies_in m u ≡ true
slot_within m k u fits h =
    let whole : u % 2 ^ (m.len + 4) ≡ m.value + k * 2 ^ m.len = eqb-true (u % 2 ^ (m.len + 4)) (m.value + k * 2 ^ m.len) h in
    let low : u % 2 ^ (m.len + 4) % 2 ^ m.len ≡ u % 2 ^ m.len = mod_mod_pow u m.len (m.len + 4) (omega arith) in
    eq-eqb (u % 2 ^ m.len) m.value (sym low ∙ ap (λ (x : ℕ). x % 2 ^ m.len) (whole ∙ add_comm m.value (k * 2 ^ m.len)) ∙ mod_low k m.len m.value fits)

-- what a request asks that asks for a mask, or for a part of it
pub record IsAsk (es : List Entry) (m : BitMask) (q : Request) : Type 0 where
  pub link : ℕ
  pub sixteen : Bool
  pub mask : BitMask
  pub is : q ≡ Inventory link sixteen mask
  pub parts : sixteen ≡ true → has_collided_below es mask 16 ≡ false
  pub one : sixteen ≡ false → has_collided_within es mask ≡ false
  pub within : Fits m → Fits mask × ((u : ℕ) → lies_in mask u ≡ true → lies_in m u ≡ true)

pub asked_is : (es : List Entry) (n link : ℕ) (m : BitMask) (q : Request) → Contains (asks_in es n link m) q → IsAsk es m q
asked_is es zero link m q c = absurd (omega (arith, c.1))
asked_is es (suc n) link m q c = by_test (λ m' h. asked_is es n link m' q h) (has_collided_below es m 16) refl c where
  by_test : ((m' : BitMask) → Contains (asks_in es n link m') q → IsAsk es m' q) → (b : Bool) → has_collided_below es m 16 ≡ b → Contains (if b then of_slots (asks_in es n link) m 16 else Inventory link (m.len == 0 || has_collided_within es m) m ∷ []) q → IsAsk es m q
  by_test each true e c =
      let s = slot_has (asks_in es n link) m 16 q c in
      let r = each (slot_of_sixteen m s.0) s.2 in
      record {
        link = r.link;
        sixteen = r.sixteen;
        mask = r.mask;
        is = r.is;
        parts = r.parts;
        one = r.one;
        within = λ fits.
            let w = r.within (slot_fits m s.0 s.1 fits) in
            (w.0, λ u h. slot_within m s.0 u fits (w.1 u h));
      }
  by_test each false e c = record {
    link = link;
    sixteen = m.len == 0 || has_collided_within es m;
    mask = m;
    is = only _ q c;
    parts = λ t. e;
    one = λ f. (neither (m.len == 0) (has_collided_within es m) f).1;
    within = λ fits. (fits, λ u h. h);
  }
