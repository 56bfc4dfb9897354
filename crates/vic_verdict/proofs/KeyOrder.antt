-- Lists of UIDs by their keys, and which of them aren't in a set.
use Rattle.vic_verdict.proofs.Words.{◌↔◌, ◌≡◌, ℕ, ◌==◌, List, [], ◌∷◌, length, Bool, true, false, refl, sym, ap, ◌∙◌, arith, ⊎_elim, ◌&&◌, not, nat_eq, eqb-true, ne_eqb, list_all, both_ways, cases_Bool, Any-from_list_any, has, is_uid, has_key, has_here, has_there, IsUid-from, is_uid_from, AreKeysOf, IsFailing, IsListOf, true_from_ne_false, list_all_at, AreOutside}

fails_iff : (i v h t a : Bool) → v ≡ (i && (h && not t)) → (i ≡ true → h ≡ a) → (a ≡ true → i ≡ true) → (v ≡ true) ↔ ((a ≡ true) × (t ≡ false))
fails_iff i v h t a is same uid = (λ e. (grind arith, grind arith), λ e. grind arith)

-- the UIDs at the keys of a list that aren't in a set are those of the list that fail its test
pub outside_are : (test : ℕ → Bool) (keys us vs : List ℕ) → AreKeysOf keys us → AreOutside test keys vs → IsListOf (IsFailing us test) vs
outside_are test keys us vs k out = record {
  rising = out.rising;
  members = λ u. fails_iff (is_uid u) _ (has_key keys u) (test u) (has us u) (out.members u) (λ i. k.members u (IsUid-from u i)) (λ h. is_uid_from u (k.are_uids u h));
}

-- ---- all of a list

pub not_all : (p : ℕ → Bool) (us : List ℕ) → list_all p us ≡ false → (u : ℕ) × (has us u ≡ true) × (p u ≡ false)
not_all p [] h = absurd (both_ways _ h refl)
not_all p (x ∷ us) h = ⊎_elim
    (λ yes. let w = not_all p us (sym (ap (λ b. b && list_all p us) yes) ∙ h) in (w.0, has_there w.0 x us w.1, w.2))
    (λ out. (x, has_here x us, out))
    (cases_Bool (p x))

-- none of a list is outside if and only if all pass
pub all_where_empty : (test : ℕ → Bool) (us vs : List ℕ) → IsListOf (IsFailing us test) vs → (length vs == 0) ≡ list_all test us
all_where_empty test us [] l = sym (true_from_ne_false _ (λ e. let w = not_all test us e in both_ways (has [] w.0) refl ((l.members w.0).1 (w.1, w.2))))
all_where_empty test us (v ∷ vs) l =
    let fails = (l.members v).0 (has_here v vs) in
    let some = Any-from_list_any (nat_eq v) us fails.0 in
    ne_eqb (length (v ∷ vs)) 0 (λ e. omega arith) ∙ sym (list_all_at test us some.0 some.1 some.2 (ap test (some.3 ∙ sym (eqb-true v some.1 some.4)) ∙ fails.1))
