-- Findings agree where the same UIDs are possible and the same are certain.
use Rattle.vic_collection.proofs.Words.{◌≡◌, ℕ, suc, ◌+◌, ◌<◌, ◌≤◌, ◌^◌, List, [], ◌∷◌, true, false, Option, Some, None, refl, sym, ap, subst, ◌∙◌, arith, ⊎_elim, ◌↔◌, MatchOption, IsUid, has, has_cases, has_here, has_there, place_of, AllPairs-from_increasing}
use Rattle.std.specs.List.{slice_index}
use Rattle.std.specs.Option.{option_map}
use Rattle.vic_frame.specs.Masks.{BitMask, lies_in}
use Rattle.vic_verdict.specs.Rising.{IsListOf}
use Rattle.vic_verdict.specs.Verdict.{IsFirstMask, NoSuch}
use Rattle.vic_verdict.proofs.Failing.{head_least, list_as, none_of}

-- ---- one list, one first mask

-- what follows the first of a list
list_after : (P : ℕ → Type 0) (u : ℕ) (us : List ℕ) → IsListOf P (u ∷ us) → IsListOf (λ x. P x × (u < x)) us
list_after P u us l = record {
  rising = λ k lt.
      let next : suc k + 1 ≡ suc (k + 1) = omega arith in
      subst (λ n. slice_index (u ∷ us) (suc k) < slice_index (u ∷ us) n) next (l.rising (suc k) (omega (arith, lt)));
  members = λ x. (
    (λ h.
        let k = place_of us x 0 h in
        let above = AllPairs-from_increasing (u ∷ us) l.rising 0 (suc k.0) 0 (omega arith) (omega (arith, k.1)) in
        ((l.members x).0 (has_there x u us h), subst (λ y. u < y) k.2 above)),
    (λ h. ⊎_elim
        (λ (e : x ≡ u). absurd (omega (arith, h.1, e)))
        (λ there. there)
        (has_cases x u us ((l.members x).1 h.0))),
  );
}

-- a property has one list
one_list : (P : ℕ → Type 0) (us vs : List ℕ) → IsListOf P us → IsListOf P vs → us ≡ vs
one_list P [] [] l k = refl
one_list P [] (v ∷ vs) l k = absurd (none_of P l v ((k.members v).0 (has_here v vs)))
one_list P (u ∷ us) [] l k = absurd (none_of P k u ((l.members u).0 (has_here u us)))
one_list P (u ∷ us) (v ∷ vs) l k =
    let a = head_least P u us l in
    let b = head_least P v vs k in
    let same : u ≡ v = omega (arith, a.1 v b.0, b.1 u a.0) in
    let rest = list_after P u us l in
    let others = subst (λ w. IsListOf (λ x. P x × (w < x)) vs) (sym same) (list_after P v vs k) in
    ap (λ w. w ∷ us) same ∙ ap (λ ws. v ∷ ws) (one_list (λ x. P x × (u < x)) us vs rest others)

pub same_list : (P Q : ℕ → Type 0) (us vs : List ℕ) → ((u : ℕ) → P u ↔ Q u) → IsListOf P us → IsListOf Q vs → us ≡ vs
same_list P Q us vs same l k = one_list Q us vs (list_as P Q us same l) k

same_mask : (P Q : BitMask → Type 0) (m k : BitMask) → ((x : BitMask) → P x ↔ Q x) → IsFirstMask P m → IsFirstMask Q k → m ≡ k
same_mask P Q m k same h g =
    let a = h.1 k ((same k).1 g.0) in
    let b = g.1 m ((same m).0 h.0) in
    let e : m.len ≡ k.len = omega (arith, a.0, b.0) in
    let f : m.value ≡ k.value = omega (arith, a.1 e, b.1 (sym e)) in
    λ i. record { len = e i; value = f i }

pub same_first : (P Q : BitMask → Type 0) (a b : Option BitMask) → ((x : BitMask) → P x ↔ Q x) → MatchOption a (NoSuch P) (IsFirstMask P) → MatchOption b (NoSuch Q) (IsFirstMask Q) → a ≡ b
same_first P Q None None same h g = refl
same_first P Q None (Some k) same h g = absurd (h k ((same k).1 g.0))
same_first P Q (Some m) None same h g = absurd (g m ((same m).0 h.0))
same_first P Q (Some m) (Some k) same h g = ap Some (same_mask P Q m k same h g)

-- the mask of what is left to ask for
pub first_of : {X : Type 0} (P : BitMask → Type 0) (Is : X → Type 0) (mask : X → BitMask) (o : Option X) → ((x : X) → Is x → IsFirstMask P (mask x)) → MatchOption o (NoSuch P) Is → MatchOption (option_map mask o) (NoSuch P) (IsFirstMask P)
first_of P Is mask None first h = h
first_of P Is mask (Some x) first h = first x h

-- ---- the same UIDs

-- the same UIDs are possible, and the same are certain
pub record SameUids (P C Q D : ℕ → Type 0) : Type 0 where
  pub possible : (u : ℕ) → P u ↔ Q u
  pub certain : (u : ℕ) → C u ↔ D u

module _ (P C Q D : ℕ → Type 0) (expected : List ℕ) (same : SameUids P C Q D) where
  open_as : (u : ℕ) → (P u × (C u → ⊥)) ↔ (Q u × (D u → ⊥))
  open_as u = let p = same.possible u in let c = same.certain u in search arith

  pub absent_as : (u : ℕ) → ((has expected u ≡ true) × (P u → ⊥)) ↔ ((has expected u ≡ true) × (Q u → ⊥))
  absent_as u = ((λ h. (h.0, λ q. h.1 ((same.possible u).1 q))), (λ h. (h.0, λ p. h.1 ((same.possible u).0 p))))

  pub unlisted_as : (u : ℕ) → (C u × (has expected u ≡ false)) ↔ (D u × (has expected u ≡ false))
  unlisted_as u = ((λ h. ((same.certain u).0 h.0, h.1)), (λ h. ((same.certain u).1 h.0, h.1)))

  pub doubtful_as : (u : ℕ) → ((has expected u ≡ true) × (P u × (C u → ⊥))) ↔ ((has expected u ≡ true) × (Q u × (D u → ⊥)))
  doubtful_as u = ((λ h. (h.0, (open_as u).0 h.1)), (λ h. (h.0, (open_as u).1 h.1)))

  pub unsettled_as : (m : BitMask) → ((m.len ≤ 56) × (m.value < 2 ^ m.len) × ((u : ℕ) → IsUid u → lies_in m u ≡ true → (P u × (C u → ⊥)) × (has expected u ≡ false)))
      ↔ ((m.len ≤ 56) × (m.value < 2 ^ m.len) × ((u : ℕ) → IsUid u → lies_in m u ≡ true → (Q u × (D u → ⊥)) × (has expected u ≡ false)))
  unsettled_as m = (
    (λ h. (h.0, h.1, λ u i l. let w = h.2 u i l in ((open_as u).0 w.0, w.1))),
    (λ h. (h.0, h.1, λ u i l. let w = h.2 u i l in ((open_as u).1 w.0, w.1))),
  )
