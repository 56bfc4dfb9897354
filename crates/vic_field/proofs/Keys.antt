-- UIDs and the keys that a field keeps them by.
use Rattle.vic_field.proofs.Words.{Bool, false, ◌||◌, ◌≡◌, ℕ, refl, ap, ◌∙◌, List, [], ◌∷◌, Less, nat_cmp, All, IsStrictlySortedBy, keys_of, All-head, All-tail, has, IsKey, uid_of, tags_of, IsPopulation, uids, AllByRecursion, sorted_head, sorted_tail, is_uid, differ}

not_there : (k : ℕ) (es : List (ℕ × Bool)) → IsKey k → All IsKey (keys_of es) → AllByRecursion (λ y. nat_cmp k y ≡ Less) (keys_of es) → has (uids (tags_of es)) (uid_of k) ≡ false
not_there k [] small keys up = refl
not_there k (e ∷ es) small keys up =
    ap (λ (b : Bool). b || has (uids (tags_of es)) (uid_of k)) (differ k e.0 small (All-head IsKey e.0 (keys_of es) keys) up.0)
    ∙ not_there k es small (All-tail IsKey e.0 (keys_of es) keys) up.1

-- the tags of a field differ
pub population_of : (es : List (ℕ × Bool)) → All IsKey (keys_of es) → IsStrictlySortedBy nat_cmp (keys_of es) → IsPopulation (uids (tags_of es))
population_of [] small up = tt
population_of (e ∷ es) small up = (
  is_uid e.0,
  not_there e.0 es (All-head IsKey e.0 (keys_of es) small) (All-tail IsKey e.0 (keys_of es) small) (sorted_head nat_cmp e.0 (keys_of es) up),
  population_of es (All-tail IsKey e.0 (keys_of es) small) (sorted_tail nat_cmp e.0 (keys_of es) up),
)
