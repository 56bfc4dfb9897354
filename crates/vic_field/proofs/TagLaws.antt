-- Tags and their keys.
use Rattle.vic_field.proofs.Words.{ℕ, Bool, false, ◌&&◌, ◌≡◌, List, [], ◌∷◌, map, refl, arith, nat_le, All, keys_of, nat_tests, All-head, All-tail, BitMask, IsUid, has, lies_in, IsKey, uid_of, tags_of, uids_at, ready_in, mirror, ready_between, key_test, is_uid, sym, map-map, ◌∙◌}

-- a UID is among those of keys where its key is among these
pub has_key : (u : ℕ) (ks : List ℕ) → IsUid u → All IsKey ks → has ks (mirror u) ≡ has (uids_at ks) u
has_key u [] h small = refl
has_key u (k ∷ ks) h small =
    grind (arith, nat_tests, key_test u k h (All-head IsKey k ks small), has_key u ks h (All-tail IsKey k ks small))

pub tags_of-map : (b : Bool) (es : List (ℕ × Bool)) → tags_of (map (λ e. (e.0, b)) es) ≡ map (λ e. (e.0, b)) (tags_of es)
tags_of-map b es = map-map (λ (e : ℕ × Bool). (uid_of e.0, e.1)) (λ (e : ℕ × Bool). (e.0, b)) es ∙ sym (map-map (λ (e : ℕ × Bool). (e.0, b)) (λ (e : ℕ × Bool). (uid_of e.0, e.1)) es)

-- the Ready ones of a mask
pub ready_by_key : (m : BitMask) (a b : ℕ) (es : List (ℕ × Bool)) → ((k : ℕ) → IsKey k → lies_in m (uid_of k) ≡ (nat_le a k && nat_le k b)) → All IsKey (keys_of es)
    → ready_between a b es ≡ ready_in m (tags_of es)
ready_by_key m a b [] h small = refl
ready_by_key m a b (e ∷ es) h small =
    rw (h e.0 (All-head IsKey e.0 (keys_of es) small)) (grind (arith, ready_by_key m a b es h (All-tail IsKey e.0 (keys_of es) small)))

-- a mask of no UID has none
pub none_ready : (m : BitMask) → ((u : ℕ) → IsUid u → lies_in m u ≡ false) → (es : List (ℕ × Bool)) → ready_in m (tags_of es) ≡ []
none_ready m h [] = refl
none_ready m h (e ∷ es) = rw (h (uid_of e.0) (is_uid e.0)) (none_ready m h es)
