-- Keys of 56 bits, in the order of low bits first, and the UIDs that they stand for.
use Rattle.vic_frame.proofs.Words.{false, ◌==◌, ◌≡◌, ℕ, ◌^◌, ◌<◌, sym, ap, ◌∙◌, arith, nat_eq, Less, nat_cmp, is_eq, nat_tests, ne_eqb, IsUid, mirror_bits, mirror, uid_of, ranked, IsKey}
use Rattle.vic_frame.proofs.MirrorLaws.{mirror_below, mirror_of_uid, uid_of_mirror, same_test}

pub is_uid : (k : ℕ) → IsUid (uid_of k)
is_uid k = let h : mirror_bits 56 k < 2 ^ 56 = mirror_below 56 k in (omega arith, omega arith)

pub key_test : (u k : ℕ) → IsUid u → IsKey k → is_eq (nat_cmp (mirror u) k) ≡ (u == uid_of k)
key_test u k h small = plain (mirror u) k ∙ same_test (mirror u) k u (uid_of k) (λ e. sym (uid_of_mirror u h) ∙ ap uid_of e) (λ e. ap mirror e ∙ mirror_of_uid k small) where
  plain : (a b : ℕ) → is_eq (nat_cmp a b) ≡ (a == b)
  plain a b = grind (arith, nat_tests)

-- a key below another stands for another UID
pub differ : (k j : ℕ) → IsKey k → IsKey j → nat_cmp k j ≡ Less → nat_eq (uid_of k) (uid_of j) ≡ false
differ k j small low less =
    let below : k < j = ranked k j Less (sym less) in
    let same = λ (e : uid_of k ≡ uid_of j). sym (mirror_of_uid k small) ∙ ap mirror e ∙ mirror_of_uid j low in
    ne_eqb (uid_of k) (uid_of j) (λ e. omega (arith, same e))
