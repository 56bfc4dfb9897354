-- The first of rising UIDs, and lists of items by their UIDs.
use Rattle.vic_collection.proofs.Words.{suc, zero, ◌≡◌, ℕ, ◌+◌, ◌<◌, ◌≤◌, List, [], ◌∷◌, ◌++◌, list_any-append, map_push, Bool, true, false, ◌||◌, cond, Some, None, refl, sym, ap, ◌∙◌, subst, arith, nat_eq, length, map, get_or, slice_get, slice_get-get_or, slice_get_within, get_or_from_slice_get, has, place_of, IsStrictlyIncreasing, AllPairs-from_increasing, both_ways, false≢true, cases_lt, inl, inr, eq-eqb}
use denote.Enum.Bare.{sameb}
use Rattle.std.specs.Option.{option_map}
use Rattle.std.proofs.lemmas.Option.{slice_get-map}
use Rattle.vic_collection.specs.declared.found_items.FoundItem.{FoundItem}
use Rattle.vic_collection.specs.Collections.{CollectionValue}
use Rattle.vic_collection.specs.Findings.{AreFoundIn, IsFoundIn, IsUidIn}
use Rattle.vic_collection.specs.States.{state_of}
use Rattle.std.specs.Ordering.{nat_cmp}
use Rattle.std.specs.List.{All, Contains, dedup, dedup_from}
use Rattle.std.specs.List.Sorted.{IsPermutation, IsSortedByKey}
use Rattle.std.proofs.lemmas.List.Elements.{All-contains, All-push, All-weaker, Contains-get_or}
use Rattle.std.proofs.lemmas.List.Kept.{Contains-from_dedup}
use Rattle.std.proofs.lemmas.List.Sorted.{Contains-permutation, IsPermutation-map, IsPermutation-sym, list_any-IsPermutation}
use Rattle.std.proofs.lemmas.Map.Keys.{IsStrictlyIncreasing-dedup}
use Rattle.vic_tree.proofs.GatheringLaws.{has_dedup}
use Rattle.vic_table.specs.Values.{ItemValue}
use Rattle.vic_collection.specs.contracts.state.State.{the_type}
use Rattle.vic_collection.specs.declared.state.State.{State}
use Rattle.vic_collection.specs.declared.state.State.TheVariants.{NoTag, Returned, InPlace, Misplaced, There, Doubtful, Away, NotCounted, Absent}
use Rattle.vic_collection.specs.inner.FoundItems.{AreAllIn}
use Rattle.std.proofs.lemmas.List.{get_or-map, length-map}
use Rattle.vic_report.specs.Findings.{uids_of}
use Rattle.vic_report.specs.declared.shown.ShownUid.{ShownUid}
use Rattle.vic_verdict.specs.Rising.{IsListOf}
use Rattle.vic_verdict.specs.Verdict.{IsLeast, NoSuch}

has_first : (u : ℕ) (us : List ℕ) → has (u ∷ us) u ≡ true
has_first u us = ap (λ (b : Bool). b || has us u) (eq-eqb u u refl)

least : (u : ℕ) (us : List ℕ) (m : ℕ) → IsStrictlyIncreasing (u ∷ us) → has (u ∷ us) m ≡ true → u ≤ m
least u us m rising among =
    let p = place_of (u ∷ us) m 0 among in
    first_case p.0 p.1 p.2 where
      first_case : (k : ℕ) → k < length (u ∷ us) → get_or (u ∷ us) k 0 ≡ m → u ≤ m
      first_case zero lt is = let same : u ≡ m = is in omega (arith, same)
      first_case (suc k) lt is =
          let below : get_or (u ∷ us) 0 0 < get_or (u ∷ us) (suc k) 0 = AllPairs-from_increasing (u ∷ us) rising 0 (suc k) 0 (omega arith) lt in
          let low : u < get_or (u ∷ us) (suc k) 0 = below in
          omega (arith, low, is)

pub first_of : {X : Type 0} (P : ℕ → Type 0) (uid : X → ℕ) (xs : List X) (x : X) → IsListOf P (map uid xs) → Some x ≡ slice_get xs 0 → IsLeast P (uid x)
first_of P uid [] x found at = absurd cc
first_of P uid (y ∷ ys) x found at =
    let same : x ≡ y = cc in
    subst (λ z. IsLeast P (uid z)) (sym same) ((found.members (uid y)).0 (has_first (uid y) (map uid ys)), λ m is. least (uid y) (map uid ys) m found.rising ((found.members m).1 is))

pub none_of : {X : Type 0} (P : ℕ → Type 0) (uid : X → ℕ) (xs : List X) → IsListOf P (map uid xs) → None ≡ slice_get xs 0 → NoSuch P
none_of P uid [] found at u is = false≢true ((found.members u).1 is)
none_of P uid (y ∷ ys) found at u is = absurd cc

-- ---- a UID among rising ones

pub found_at : (shown : List ShownUid) (uid r : ℕ) → IsStrictlyIncreasing (uids_of shown) → has (uids_of shown) uid ≡ true → ((i : ℕ) (d : ShownUid) → i < r → (get_or shown i d).uid < uid) → ((d : ShownUid) → r < length shown → uid ≤ (get_or shown r d).uid)
    → (r < length shown) × ((d : ShownUid) → (get_or shown r d).uid ≡ uid)
found_at [] uid r rising among before ahead = absurd (false≢true among)
found_at (s ∷ shown) uid r rising among before ahead =
    let all = s ∷ shown in
    let p = place_of (uids_of all) uid 0 among in
    let within : p.0 < length all = omega (arith, p.1, length-map all (λ (t : ShownUid). t.uid)) in
    let there : (d : ShownUid) → (get_or all p.0 d).uid ≡ uid = λ d. sym (get_or-map (λ (t : ShownUid). t.uid) all p.0 d 0 within) ∙ p.2 in
    let low : r ≤ p.0 = elim (cases_lt p.0 r) [
      | inl below ↦ absurd (omega (arith, before p.0 s below, there s))
      | inr above ↦ above
    ] in
    let lt : r < length all = omega (arith, low, within) in
    let here : (d : ShownUid) → (get_or all r d).uid ≡ uid = λ d. elim (cases_lt r p.0) [
      | inl below ↦
          let rises = AllPairs-from_increasing (uids_of all) rising r p.0 0 below p.1 in
          let at_r = get_or-map (λ (t : ShownUid). t.uid) all r d 0 lt in
          absurd (omega (arith, rises, at_r, p.2, ahead d lt))
      | inr above ↦ let same : r ≡ p.0 = omega (arith, low, above) in rw same (there d)
    ] in
    (lt, here)

-- ---- items by their UIDs

abbrev pub uid_of : FoundItem → ℕ
uid_of f = f.uid

module _ (c : CollectionValue) (state : State) (i : ℕ) (found : List FoundItem) (kept : AreAllIn c state i found) where
  pub one_more : (item : ItemValue) (u : ℕ) → slice_get c.catalogue.items i ≡ Some item → item.uid ≡ Some u → state_of c item ≡ state → AreAllIn c state (i + 1) (found ++ record { uid = u; item = i } ∷ [])
  one_more item u at uid is = record {
    each = All-push (IsFoundIn c state) found _ kept.each (item, at, uid, is);
    all = λ k other q lt there named stands. more q ∙ elim (cases_lt k i) [
      | inl below ↦ rw (kept.all k other q below there named stands) refl
      | inr above ↦
          let last : k ≡ i = omega arith in
          let one : other ≡ item = cc (there, at, last) in
          let same : q ≡ u = cc (uid, named, one) in
          rw (eq-eqb q u same) (either (has (map uid_of found) q))
    ];
  }
    where
      more : (q : ℕ) → has (map uid_of (found ++ record { uid = u; item = i } ∷ [])) q ≡ (has (map uid_of found) q || (nat_eq q u || false))
      more q = ap (λ us. has us q) (map_push uid_of found (record { uid = u; item = i })) ∙ list_any-append (nat_eq q) (map uid_of found) (u ∷ [])

      either : (b : Bool) → (b || (true || false)) ≡ true
      either true = refl
      either false = refl

  -- an item without a UID, or in another state
  pub none_more : ((item : ItemValue) (u : ℕ) → slice_get c.catalogue.items i ≡ Some item → item.uid ≡ Some u → state_of c item ≡ state → ⊥) → AreAllIn c state (i + 1) found
  none_more never = record {
    each = kept.each;
    all = λ k other q lt there named stands. elim (cases_lt k i) [
      | inl below ↦ kept.all k other q below there named stands
      | inr above ↦ let last : k ≡ i = omega arith in absurd (never other q (ap (slice_get c.catalogue.items) (sym last) ∙ there) named stands)
    ];
  }

same_state : (s : State) → sameb the_type s s ≡ true
same_state NoTag = refl
same_state Returned = refl
same_state InPlace = refl
same_state Misplaced = refl
same_state There = refl
same_state Doubtful = refl
same_state Away = refl
same_state NotCounted = refl
same_state Absent = refl

pub other_state : (s t : State) → sameb the_type s t ≡ false → s ≡ t → ⊥
other_state s t other same = both_ways (sameb the_type s t) other (ap (sameb the_type s) (sym same) ∙ same_state s)

pub found_in : (c : CollectionValue) (state : State) (all once : List FoundItem) → AreAllIn c state (length c.catalogue.items) all → IsStrictlyIncreasing (map uid_of once) → ((u : ℕ) → has (map uid_of once) u ≡ has (map uid_of all) u) → All (Contains all) once → AreFoundIn c state once
found_in c state all once kept rising members items = record {
  uids = record { rising = rising; members = λ u. (λ h. there u (sym (members u) ∙ h), λ w. members u ∙ back u w) };
  items = All-weaker (Contains all) (IsFoundIn c state) (λ f among. All-contains (IsFoundIn c state) all f kept.each among) once items;
}
  where
    there : (u : ℕ) → has (map uid_of all) u ≡ true → IsUidIn c state u
    there u h =
        let p = place_of (map uid_of all) u 0 h in
        let within : p.0 < length all = omega (arith, p.1, length-map all uid_of) in
        let none : FoundItem = record { uid = 0; item = 0 } in
        let named : (get_or all p.0 none).uid ≡ u = sym (get_or-map uid_of all p.0 none 0 within) ∙ p.2 in
        let w = kept.each p.0 none within in
        let k = (get_or all p.0 none).item in
        (w.0, (k, slice_get_within c.catalogue.items k w.0 w.1, get_or_from_slice_get c.catalogue.items k w.0 w.0 w.1), w.2 ∙ ap Some named, w.3)

    back : (u : ℕ) → IsUidIn c state u → has (map uid_of all) u ≡ true
    back u w =
        let at : slice_get c.catalogue.items w.1.0 ≡ Some w.0 = slice_get-get_or c.catalogue.items w.1.0 w.0 w.1.1 ∙ ap Some w.1.2 in
        kept.all w.1.0 w.0 u w.1.1 at w.2 w.3

-- ---- one item for each UID

abbrev pub same_uid : FoundItem → FoundItem → Bool
same_uid x y = nat_eq x.uid y.uid

uids_from : (k : FoundItem) (xs : List FoundItem) → map uid_of (dedup_from same_uid k xs) ≡ dedup_from nat_eq k.uid (map uid_of xs)
uids_from k [] = refl
uids_from k (x ∷ xs) = go (nat_eq x.uid k.uid) (uids_from k xs) (uids_from x xs) where
  go : (b : Bool) → map uid_of (dedup_from same_uid k xs) ≡ dedup_from nat_eq k.uid (map uid_of xs) → map uid_of (dedup_from same_uid x xs) ≡ dedup_from nat_eq x.uid (map uid_of xs) → map uid_of (cond b (dedup_from same_uid k xs) (k ∷ dedup_from same_uid x xs)) ≡ cond b (dedup_from nat_eq k.uid (map uid_of xs)) (k.uid ∷ dedup_from nat_eq x.uid (map uid_of xs))
  go true same rest = same
  go false same rest = ap (λ us. k.uid ∷ us) rest

uids_once : (xs : List FoundItem) → map uid_of (dedup same_uid xs) ≡ dedup nat_eq (map uid_of xs)
uids_once [] = refl
uids_once (x ∷ xs) = uids_from x xs

module _ (found sorted : List FoundItem) (order : IsPermutation found sorted) where
  pub once_rising : IsSortedByKey uid_of nat_cmp sorted → IsStrictlyIncreasing (map uid_of (dedup same_uid sorted))
  once_rising rises = subst IsStrictlyIncreasing (sym (uids_once sorted)) (IsStrictlyIncreasing-dedup (map uid_of sorted) (λ k d low lt.
      let none : FoundItem = record { uid = d; item = 0 } in
      let within : k + 1 < length sorted = omega (arith, lt, length-map sorted uid_of) in
      rw (get_or-map uid_of sorted (k + 1) none d within, get_or-map uid_of sorted k none d (omega arith)) (rises k none low within)))

  pub once_members : (u : ℕ) → has (map uid_of (dedup same_uid sorted)) u ≡ has (map uid_of found) u
  once_members u = ap (λ us. has us u) (uids_once sorted) ∙ (has_dedup (map uid_of sorted) u ∙ sym (list_any-IsPermutation (nat_eq u) _ _ (IsPermutation-map uid_of found sorted order)))

  pub once_items : All (Contains found) (dedup same_uid sorted)
  once_items k d lt = Contains-permutation sorted found _ (IsPermutation-sym found sorted order) (Contains-from_dedup same_uid sorted _ (Contains-get_or (dedup same_uid sorted) k d lt))

-- ---- the first of a list, or none

pub nothing_at : {X : Type 0} (xs : List X) → None ≡ slice_get xs 0 → xs ≡ []
nothing_at [] at = refl
nothing_at (x ∷ xs) at = absurd cc

pub first_place : {X Y : Type 0} (f : X → Y) (xs : List X) (ys : List Y) (x : X) → map f xs ≡ ys → Some x ≡ slice_get xs 0 → slice_get ys 0 ≡ Some (f x)
first_place f xs ys x e at = ap (λ l. slice_get l 0) (sym e) ∙ (slice_get-map f xs 0 ∙ ap (option_map f) (sym at))

pub first_in : (c : CollectionValue) (state : State) (found ahead : List FoundItem) (x : FoundItem) → AreFoundIn c state found → ahead ≡ found → Some x ≡ slice_get ahead 0 → IsLeast (IsUidIn c state) x.uid
first_in c state found ahead x all same at = first_of (IsUidIn c state) (λ (f : FoundItem). f.uid) found x all.uids (at ∙ ap (λ l. slice_get l 0) same)

pub none_in : (c : CollectionValue) (state : State) (found ahead : List FoundItem) → AreFoundIn c state found → ahead ≡ found → None ≡ slice_get ahead 0 → NoSuch (IsUidIn c state)
none_in c state found ahead all same at = none_of (IsUidIn c state) (λ (f : FoundItem). f.uid) found all.uids (at ∙ ap (λ l. slice_get l 0) same)
