-- Lists that have all masks of a kind: in any order, then in order.
use Rattle.vic_tree.proofs.Words.{◌≡◌, ◌⊎◌, ◌↔◌, inl, inr, Bool, List, [], ◌∷◌, Less, sym, refl, subst, arith, AllPairs, Contains, IsPermutation, IsSorted, BitMask, IsTotalOrder, dedup, eq_by_cmp, eq_by_cmp_equiv, nat_cmp_total, on_total, then_total, All-from_recursion, All-weaker, Contains-get_or, All-dedup, AllPairs-cons, Contains-dedup, IsStrictlySortedBy-dedup, All-permutation, Contains-permutation, Adds, AreAll, ComesBefore}
use Rattle.std.specs.List.Sorted.{IsStrictlySortedBy}
use Rattle.vic_tree.proofs.FirstMasks.{less_before, mask_cmp, or_both, equal_same}

-- some masks, and those that are added
pub members_both : (P Q R : BitMask → Type 0) (ys zs : List BitMask) → ((m : BitMask) → P m ⊎ Q m ↔ R m) → ((m : BitMask) → P m ↔ Contains ys m) → Adds Q ys zs → (m : BitMask) → R m ↔ Contains zs m
members_both P Q R ys zs like own adds m = grind (arith, like m, own m, adds m)

-- one after another, said as one
pub adds_both : (P Q R : BitMask → Type 0) (xs ys zs : List BitMask) → ((m : BitMask) → P m ⊎ Q m ↔ R m) → Adds P xs ys → Adds Q ys zs → Adds R xs zs
adds_both P Q R xs ys zs like = members_both (λ m. Contains xs m ⊎ P m) Q (λ m. Contains xs m ⊎ R m) ys zs (λ m. or_both (Contains xs m) (P m) (Q m) (R m) (like m))

-- a condition more on each side
pub short_both : (P Q R S : Type 0) → P ⊎ Q ↔ R → (P × S) ⊎ (Q × S) ↔ R × S
short_both P Q R S like = (
  λ w. elim w [ inl a ↦ (like.0 (inl a.0), a.1) | inr a ↦ (like.0 (inr a.0), a.1) ],
  λ w. elim (like.1 w.0) [ inl p ↦ inl (p, w.1) | inr q ↦ inr (q, w.1) ],
)

-- what a sort leaves is in order, each mask once
rising : (ms : List BitMask) → IsStrictlySortedBy mask_cmp ms → AllPairs ComesBefore ms
unfolding IsStrictlySortedBy
rising [] up = λ i j d lt within. absurd (omega arith)
rising (m ∷ ms) up = AllPairs-cons ComesBefore m ms (All-weaker (λ n. mask_cmp m n ≡ Less) (ComesBefore m) (less_before m) ms (All-from_recursion (λ n. mask_cmp m n ≡ Less) ms up.0)) (rising ms up.1)

total : IsTotalOrder mask_cmp
total = then_total (on_total (λ m. m.len) nat_cmp_total) (on_total (λ m. m.value) nat_cmp_total)

pub sorted_once : (E : BitMask → BitMask → Bool) → ((x y : BitMask) → E x y ≡ eq_by_cmp mask_cmp x y) → (P : BitMask → Type 0) (ms sorted : List BitMask) → ((m : BitMask) → P m ↔ Contains ms m) → IsPermutation ms sorted → IsSorted mask_cmp sorted → AreAll P (dedup E sorted)
sorted_once E ties P ms sorted own same up = subst (λ (D : BitMask → BitMask → Bool). AreAll P (dedup D sorted)) (λ i x y. sym (ties x y) i) (record {
  rising = rising (dedup (eq_by_cmp mask_cmp) sorted) (IsStrictlySortedBy-dedup total (λ x y. refl) sorted up);
  wanted = All-dedup (eq_by_cmp mask_cmp) P sorted (All-permutation P ms sorted same (λ k d lt. (own _).1 (Contains-get_or ms k d lt)));
  others = λ m w. Contains-dedup (eq_by_cmp_equiv total) equal_same sorted m (Contains-permutation ms sorted m same ((own m).0 w));
})
