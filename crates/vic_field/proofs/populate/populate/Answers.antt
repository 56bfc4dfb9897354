use Rattle.vic_field.proofs.Words.{arith, ◌≡◌, ℕ, Bool, true, List, [], ◌∷◌, Some, None, sym, ap, subst, ◌∙◌, ◌||◌, refl, nat_eq, if◌then◌else◌, All, Contains, nat_cmp, IsStrictlySortedBy, IsKey, uid_of, has, uids_at, dedup, list_any, All-dedup, dedup_is, Any-from_list_any, list_any_at, Contains-dedup_nat, Contains-from_dedup, list_any-IsPermutation, All-permutation, IsStrictlyIncreasing-dedup, sorted_from_strictly_increasing, IfOk-weaker}
use Rattle.vic_field.proofs.populate.populate.Goals as goal

has_at : (ks : List ℕ) (u : ℕ) → has (uids_at ks) u ≡ list_any (λ k. nat_eq u (uid_of k)) ks
has_at [] u = refl
has_at (k ∷ ks) u = ap (λ (b : Bool). nat_eq u (uid_of k) || b) (has_at ks u)

-- what one list holds the other holds, so a test finds it there
goes_over : (p : ℕ → Bool) (xs ys : List ℕ) → ((x : ℕ) → Contains xs x → Contains ys x) → list_any p xs ≡ true → list_any p ys ≡ true
goes_over p xs ys holds any =
    let one = Any-from_list_any p xs any in
    let there = holds one.1 (one.0, one.2, one.3) in
    list_any_at p ys there.0 one.1 there.1 (ap p there.2 ∙ one.4)

any_dedup : (p : ℕ → Bool) (xs : List ℕ) → list_any p (dedup nat_eq xs) ≡ list_any p xs
any_dedup p xs = grind (arith, goes_over p xs (dedup nat_eq xs) (Contains-dedup_nat xs), goes_over p (dedup nat_eq xs) xs (Contains-from_dedup nat_eq xs))

pub of_keys-requires : goal.of_keys-requires
of_keys-requires c =
    let sorted = c.sort_unstable.new.self.items in
    let items = dedup_is nat_eq sorted c.dedup.new.self.items c.dedup.ensures.filtered in
    record {
      small = subst (All IsKey) (sym items) (All-dedup nat_eq IsKey sorted (All-permutation IsKey c.in_ok-keys.keys.items sorted c.sort_unstable.ensures.permutation c.in_ok-keys.ensures.small));
      rising = subst (IsStrictlySortedBy nat_cmp) (sym items) (sorted_from_strictly_increasing (dedup nat_eq sorted) (IsStrictlyIncreasing-dedup sorted c.sort_unstable.ensures.sorted));
    }

pub returns : goal.returns
returns c =
    let listed = c.in_ok-keys.keys.items in
    let sorted = c.sort_unstable.new.self.items in
    let same = λ (u : ℕ).
    has_at c.dedup.new.self.items u
    ∙ ap (λ (ks : List ℕ). list_any (λ k. nat_eq u (uid_of k)) ks) (dedup_is nat_eq sorted c.dedup.new.self.items c.dedup.ensures.filtered)
    ∙ any_dedup (λ k. nat_eq u (uid_of k)) sorted
    ∙ sym (list_any-IsPermutation (λ k. nat_eq u (uid_of k)) listed sorted c.sort_unstable.ensures.permutation)
    ∙ sym (has_at listed u)
    ∙ ap (λ (us : List ℕ). has us u) c.in_ok-keys.ensures.uids in
    IfOk-weaker c.of_keys.result _ _
    (λ field k u h. k u h ∙ ap (λ (b : Bool). if b then Some true else None) (same u))
    c.of_keys.ensures
