-- The sightings of one UID.
use Rattle.std.proofs.Common.{Bool, List, [], ap, arith, cond, drop, false, get_or, length, map, nat_eq, refl, sym, take, true, ℕ, ◌++◌, ◌+◌, ◌-◌, ◌<◌, ◌∙◌, ◌∷◌, ◌≡◌, ◌≤◌, zero, suc, ◌&&◌, not}
use Rattle.std.proofs.Common.{ltb, inl, inr}
use Rattle.std.proofs.lemmas.Bool.{cases_lt, ltb-true, ltb-false, ne_eqb, eq-eqb}
use Rattle.std.proofs.lemmas.Bool.Decides.{nat_tests}
use Rattle.std.specs.List.{filter}
use Rattle.std.specs.List.Sorted.{IsPartitionPoint, ties}
use Rattle.std.specs.Ordering.{is_lt, nat_cmp}
use Rattle.vic_collection.specs.declared.logs_by_uid.LogOfUid.{LogOfUid}
use Rattle.vic_collection.specs.Collections.{logs_in}

-- those that tie with a sighting of a UID are those of the UID
same_uid : (u v : ℕ) → (not (is_lt (nat_cmp u v)) && not (is_lt (nat_cmp v u))) ≡ nat_eq u v
same_uid u v = grind (arith, nat_tests)

pub logs_stay : (old new : List LogOfUid) → ((s : LogOfUid) → filter (ties (λ a b. is_lt (nat_cmp a.uid b.uid)) s) new ≡ filter (ties (λ a b. is_lt (nat_cmp a.uid b.uid)) s) old) → (u : ℕ) → logs_in new u ≡ logs_in old u
logs_stay old new stable u =
    let s : LogOfUid = record { uid = u; log = 0 } in
    let test : ties (λ (a : LogOfUid) (b : LogOfUid). is_lt (nat_cmp a.uid b.uid)) s ≡ (λ t. nat_eq u t.uid) = λ i t. same_uid u t.uid i in
    ap (map (λ t. t.log)) (rw test at (stable s))

-- one more
pub logs_pushed : (xs : List LogOfUid) (s : LogOfUid) (u : ℕ) → logs_in (xs ++ s ∷ []) u ≡ logs_in xs u ++ cond (nat_eq u s.uid) (s.log ∷ []) []
logs_pushed [] s u = go (nat_eq u s.uid) where
  go : (b : Bool) → map (λ t. t.log) (cond b (s ∷ []) []) ≡ cond b (s.log ∷ []) []
  go true = refl
  go false = refl
logs_pushed (x ∷ xs) s u = go (nat_eq u x.uid) (logs_pushed xs s u) where
  go : (b : Bool) → logs_in (xs ++ s ∷ []) u ≡ logs_in xs u ++ cond (nat_eq u s.uid) (s.log ∷ []) [] → map (λ t. t.log) (cond b (x ∷ filter (λ (t : LogOfUid). nat_eq u t.uid) (xs ++ s ∷ [])) (filter (λ (t : LogOfUid). nat_eq u t.uid) (xs ++ s ∷ []))) ≡ map (λ t. t.log) (cond b (x ∷ filter (λ (t : LogOfUid). nat_eq u t.uid) xs) (filter (λ (t : LogOfUid). nat_eq u t.uid) xs)) ++ cond (nat_eq u s.uid) (s.log ∷ []) []
  go true rest = ap (λ l. x.log ∷ l) rest
  go false rest = rest

module _ {X : Type 0} (n : X → ℕ) (u : ℕ) where
  abbrev test : X → Bool
  test x = nat_eq u (n x)

  skipped : (x : X) (xs : List X) → test x ≡ false → filter test (x ∷ xs) ≡ filter test xs
  skipped x xs e = ap (λ (b : Bool). cond b (x ∷ filter test xs) (filter test xs)) e

  kept : (x : X) (xs : List X) → test x ≡ true → filter test (x ∷ xs) ≡ x ∷ filter test xs
  kept x xs e = ap (λ (b : Bool). cond b (x ∷ filter test xs) (filter test xs)) e

  -- those with the number stand behind those below it, and before those above it
  stand : (xs : List X) (from count : ℕ) → from + count ≤ length xs
      → ((k : ℕ) (d : X) → k < from → n (get_or xs k d) < u)
      → ((k : ℕ) (d : X) → from ≤ k → k < from + count → n (get_or xs k d) ≡ u)
      → ((k : ℕ) (d : X) → from + count ≤ k → k < length xs → u < n (get_or xs k d))
      → filter test xs ≡ take count (drop from xs)
  stand [] zero zero within low mid high = refl
  stand [] zero (suc count) within low mid high = absurd (omega (arith, within))
  stand [] (suc from) count within low mid high = absurd (omega (arith, within))
  stand (x ∷ xs) (suc from) count within low mid high =
      let first = low 0 x (omega arith) in
      skipped x xs (ne_eqb u (n x) (λ e. omega (arith, e, first)))
      ∙ stand xs from count (omega (arith, within)) (λ k d l. low (suc k) d (omega (arith, l))) (λ k d l h. mid (suc k) d (omega (arith, l)) (omega (arith, h))) (λ k d l h. high (suc k) d (omega (arith, l)) (omega (arith, h)))
  stand (x ∷ xs) zero (suc count) within low mid high =
      kept x xs (eq-eqb u (n x) (sym (mid 0 x (omega arith) (omega arith))))
      ∙ ap (λ l. x ∷ l) (stand xs zero count (omega (arith, within)) (λ k d l. absurd (omega (arith, l))) (λ k d l h. mid (suc k) d (omega arith) (omega (arith, h))) (λ k d l h. high (suc k) d (omega (arith, l)) (omega (arith, h))))
  stand (x ∷ xs) zero zero within low mid high =
      let first = high 0 x (omega arith) (omega arith) in
      skipped x xs (ne_eqb u (n x) (λ e. omega (arith, e, first)))
      ∙ stand xs zero zero (omega arith) (λ k d l. absurd (omega (arith, l))) (λ k d l h. absurd (omega (arith, h))) (λ k d l h. high (suc k) d (omega arith) (omega (arith, h)))

  -- where the numbers below one end, as a search tells it
  pub below_from_search : (xs : List X) (from : ℕ) → IsPartitionPoint (λ y. ltb (n y) u ≡ true) (λ y. ltb (n y) u ≡ false) xs from → IsPartitionPoint (λ y. n y < u) (λ y. u ≤ n y) xs from
  below_from_search xs from below = (λ k d l h. ltb-true _ _ (below.0 k d l h), λ k d l h. ltb-false _ _ (below.1 k d l h))

  -- between the end of the numbers below one, and that of those up to it
  pub found_between : (xs : List X) (from to : ℕ) → IsPartitionPoint (λ y. n y < u) (λ y. u ≤ n y) xs from → IsPartitionPoint (λ y. n y ≤ u) (λ y. u < n y) xs to → from ≤ length xs → to ≤ length xs → (e : X)
      → (from ≤ to) × (take (to - from) (drop from xs) ≡ filter (λ x. nat_eq u (n x)) xs)
  found_between xs from to below upto within bound e =
      let mid : (k : ℕ) (d : X) → from ≤ k → k < to → n (get_or xs k d) ≡ u = λ k d l h.
      let least = below.1 k d l (omega (arith, h, bound)) in
      let most = upto.0 k d (omega arith) h in
      omega (arith, least, most) in
      let order : from ≤ to = elim (cases_lt to from) [
        | inl l ↦ let one = below.0 to e (omega arith) l in let other = upto.1 to e (omega arith) (omega (arith, l, within)) in absurd (omega (arith, one, other))
        | inr l ↦ l
      ] in
      (order, sym (stand xs from (to - from) (omega (arith, order, bound)) (λ k d l. below.0 k d (omega arith) l) (λ k d l h. mid k d l (omega (arith, h, order))) (λ k d l h. upto.1 k d (omega (arith, l, order)) h)))
