-- The tags that a row's entries stand for.
use Rattle.vic_field.proofs.Words.{◌≡◌, ℕ, zero, suc, Bool, true, false, cond, ◌==◌, List, [], ◌∷◌, map, Some, None, refl, ap, ◌∙◌, arith, nat_eq, All, insert, option_map, keys_of, All-head, All-tail, IsKey, uid_of, IsUid, has, tags_of, uids_at, with_quiet, readiness, uids, or_parts, nat_tests, mirror, mirror_of_uid, uid_of_mirror, Row, sym, map-map}
use Rattle.vic_field.specs.Rows.{entries}
use Rattle.vic_field.proofs.RowLaws.{keys_of_tags}
use Rattle.vic_field.proofs.TagLaws.{has_key}

pub quiet_readiness : (u v : ℕ) (es : List (ℕ × Bool)) → IsUid v → All IsKey (keys_of es)
    → readiness (tags_of (with_quiet (mirror v) es)) u ≡ cond (u == v) (option_map (λ _. false) (readiness (tags_of es) u)) (readiness (tags_of es) u)
quiet_readiness u v [] hv small = grind arith
quiet_readiness u v (e ∷ es) hv small =
    grind (arith, nat_tests, mirror_of_uid e.0 (All-head IsKey e.0 (keys_of es) small), uid_of_mirror v hv, quiet_readiness u v es hv (All-tail IsKey e.0 (keys_of es) small))

at_front : (u v key : ℕ) (es : List (ℕ × Bool)) → uid_of key ≡ v → readiness (tags_of ((key, true) ∷ es)) u ≡ cond (u == v) (Some true) (readiness (tags_of es) u)
at_front u v key es e = ap (λ (w : ℕ). cond (u == w) (Some true) (readiness (tags_of es) u)) e

pub more_readiness : (u v key : ℕ) (es : List (ℕ × Bool)) (i : ℕ) → uid_of key ≡ v → has (uids (tags_of es)) v ≡ false
    → readiness (tags_of (insert es i (key, true))) u ≡ cond (u == v) (Some true) (readiness (tags_of es) u)
more_readiness u v key es zero e fresh = at_front u v key es e
more_readiness u v key [] (suc i) e fresh = at_front u v key [] e
more_readiness u v key (x ∷ es) (suc i) e fresh =
    let parts = or_parts (nat_eq v (uid_of x.0)) (has (uids (tags_of es)) v) fresh in
    grind (arith, nat_tests, parts.0, more_readiness u v key es i e parts.1)

uids_of_entries : (r : Row) → uids (tags_of (entries r)) ≡ uids_at r.keys.items
uids_of_entries r =
    map-map (λ (t : ℕ × Bool). t.0) (λ (e : ℕ × Bool). (uid_of e.0, e.1)) (entries r)
    ∙ sym (map-map uid_of (λ (e : ℕ × Bool). e.0) (entries r)) ∙ ap uids_at (keys_of_tags r.keys.items r.quiet)

-- a tag is there where its key is
pub row_has : (r : Row) (u k : ℕ) → IsUid u → k ≡ mirror u → has r.keys.items k ≡ has (uids (tags_of (entries r))) u
row_has r u k is_uid at = ap (has r.keys.items) at ∙ has_key u r.keys.items is_uid r.rising.small ∙ ap (λ us. has us u) (sym (uids_of_entries r))

-- new tags are Ready
pub new_readiness : (u : ℕ) (ks : List ℕ) → readiness (tags_of (map (λ k. (k, true)) ks)) u ≡ cond (has (uids_at ks) u) (Some true) None
new_readiness u [] = refl
new_readiness u (k ∷ ks) = grind (arith, nat_tests, new_readiness u ks)
