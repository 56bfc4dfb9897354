use Rattle.vic_tree.proofs.Words.{◌≡◌, ℕ, ◌+◌, ◌<◌, ◌^◌, ◌==◌, ◌||◌, List, [], ◌∷◌, ◌++◌, true, false, length, get_or, take, inl, inr, ◌∙◌, ap, sym, subst, arith, eqb-true, nat_eq, or_cases, take_all, All-push, All-permutation, list_any-append, list_any-IsPermutation, list_any_more, IsUid, has, has_key, mirror, uid_of, mirror_of_uid, same_test, uid_of_mirror, IsNonDecreasingBy-from_sort}
use Rattle.vic_tree.proofs.BoolLaws.{or_false}
use Rattle.vic_tree.proofs.sorted_keys.SortedKeys.of.Goals as goal

uid_more : (us : List ℕ) (i x u : ℕ) → i < length us → x ≡ get_or us i x → IsUid x → ((v : ℕ) → has (take i us) v ≡ true → IsUid v) → has (take (i + 1) us) u ≡ true → IsUid u
uid_more us i x u lt is w all some = elim (or_cases _ _ (sym (list_any_more (nat_eq u) us i x lt) ∙ some)) [
  | inl old ↦ all u old
  | inr new ↦ subst IsUid (is ∙ sym (eqb-true u (get_or us i x) new)) w
]

key_pushed : (keys uids : List ℕ) (n k x u : ℕ) → n < length uids → x ≡ get_or uids n x → uid_of k ≡ x → k < 2 ^ 56 → IsUid u
    → has_key keys u ≡ has (take n uids) u → has_key (keys ++ k ∷ []) u ≡ has (take (n + 1) uids) u
key_pushed keys uids n k x u lt is back small w h =
    list_any-append (nat_eq (mirror u)) keys (k ∷ [])
    ∙ ap (λ b. b || ((mirror u == k) || false)) h
    ∙ ap (λ b. has (take n uids) u || b) (or_false (mirror u == k) ∙ same_test (mirror u) k u (uid_of k) (λ e. sym (uid_of_mirror u w) ∙ ap uid_of e) (λ e. ap mirror e ∙ mirror_of_uid k small))
    ∙ ap (λ y. has (take n uids) u || (u == y)) (back ∙ is)
    ∙ sym (list_any_more (nat_eq u) uids n x lt)

pub loop-uid-preserved : goal.loop-uid-preserved
loop-uid-preserved c = let small : c.number.result < 2 ^ 56 = rw c.number.ensures.value c.number.ensures.small in record {
  keys = rw c.in_ok-push.ensures.items (All-push (λ k. k < 2 ^ 56) c.loop-uid.keys.items c.number.result c.loop-uid.invariant.keys small);
  members = λ u i.
      ap (λ ks. has_key ks u) c.in_ok-push.ensures.items
      ∙ key_pushed c.loop-uid.keys.items c.args.uids.now c.loop-uid.uid-index c.number.result c.uid-item.result u c.loop-uid-test.true c.uid-item.is (ap uid_of c.number.ensures.value ∙ c.key.ensures.back) small i (c.loop-uid.invariant.members u i);
  are_uids = λ u some. uid_more c.args.uids.now c.loop-uid.uid-index c.uid-item.result u c.loop-uid-test.true c.uid-item.is c.key.ensures.is_uid c.loop-uid.invariant.are_uids some;
}

pub invariant_of-result : goal.invariant_of-result
invariant_of-result c = (
  All-permutation (λ k. k < 2 ^ 56) _ _ c.sort_unstable.ensures.permutation c.loop-uid.invariant.keys,
  IsNonDecreasingBy-from_sort (λ x. x) c.sort_unstable.new.self.items c.sort_unstable.ensures.sorted,
)

pub returns : goal.returns
returns c =
    let whole = take_all c.loop-uid.uid-index c.args.uids.now (omega arith) in
    let sorted = invariant_of-result c in
    record {
      order = sorted.1;
      keys = sorted.0;
      members = λ u i. sym (list_any-IsPermutation (nat_eq (mirror u)) _ _ c.sort_unstable.ensures.permutation) ∙ rw whole at (c.loop-uid.invariant.members u i);
      are_uids = rw whole at c.loop-uid.invariant.are_uids;
    }
