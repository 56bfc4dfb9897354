-- One more UID, or log, in a set.
use Rattle.vic_table.proofs.Words.{◌≡◌, ℕ, Bool, true, false, not, cond, Some, None, List, [], ◌∷◌, ◌++◌, refl, sym, ap, ◌∙◌, arith, nat_tests, list_any-append, has, nat_eq, ◌||◌, append-nil}
use Rattle.std.specs.BTreeMap.{is_at}
use Rattle.std.specs.BTreeSet.{BTreeSet, contains}
use Rattle.std.specs.Cmp.Lexicographic.{slice_cmp}
use Rattle.std.specs.Ordering.{nat_cmp}
use Rattle.std.specs.Str.{bytes_eq}
use Rattle.std.specs.declared.vec.Vec.{Vec}
use Rattle.std.proofs.lemmas.Map.Text.{is_eq-slice_cmp}
use Rattle.vic_table.specs.Rows.{is_named}
use Rattle.vic_table.specs.Values.{PlaceRowValue}
use Rattle.vic_table.specs.inner.Sets.{IsSetOf, TellsNew, AreLogsOf, TellsNewLog}

set_more : (before : List ℕ) (uid : ℕ) (old set : BTreeSet ℕ) → IsSetOf before old → ((q : ℕ) → contains nat_cmp set q ≡ cond (is_at (nat_cmp uid) q) true (contains nat_cmp old q)) → IsSetOf (before ++ uid ∷ []) set
set_more before uid old set h more q = rw (list_any-append (nat_eq q) before (uid ∷ [])) (more q ∙ (rw (h q) (same (has before q)))) where
  same : (b : Bool) → cond (is_at (nat_cmp uid) q) true b ≡ (b || (nat_eq q uid || false))
  same b = grind (arith, nat_tests)

pub new_uid : (before : List ℕ) (uid : ℕ) (new : Bool) (old set : BTreeSet ℕ) → IsSetOf before old → new ≡ not (contains nat_cmp old uid) → ((q : ℕ) → contains nat_cmp set q ≡ cond (is_at (nat_cmp uid) q) true (contains nat_cmp old q)) → TellsNew before (Some uid) new set
new_uid before uid new old set h is_new more = record { is_new = is_new ∙ ap not (h uid); set_is = λ _. set_more before uid old set h more }

pub no_uid : (before : List ℕ) (set : BTreeSet ℕ) → IsSetOf before set → TellsNew before None true set
no_uid before set h = record { is_new = refl; set_is = λ _. rw (append-nil before) h }

module _ {A : Type 0} where
  pub new_log : (before : List PlaceRowValue) (log : List ℕ) (key : Vec ℕ A) (new : Bool) (old set : BTreeSet (Vec ℕ A)) → AreLogsOf before old → key.items ≡ log
      → new ≡ not (contains (λ x y. slice_cmp nat_cmp x.items y.items) old key)
      → ((q : Vec ℕ A) → contains (λ x y. slice_cmp nat_cmp x.items y.items) set q ≡ cond (is_at (λ y. slice_cmp nat_cmp key.items y.items) q) true (contains (λ x y. slice_cmp nat_cmp x.items y.items) old q))
      → TellsNewLog before log new set
  new_log before log key new old set h items is_new more = record {
    is_new = is_new ∙ (ap not (h key) ∙ ap (λ l. not (is_named before l)) items);
    set_is = λ _ row same q.
        rw (list_any-append (λ r. bytes_eq r.log q.items) before (row ∷ []))
        (more q ∙ (rw (h q, is_eq-slice_cmp key.items q.items) (go (bytes_eq key.items q.items) (is_named before q.items) (bytes_eq row.log q.items) (ap (λ l. bytes_eq l q.items) (items ∙ sym same)))));
  } where
    go : (k b r : Bool) → k ≡ r → cond k true b ≡ (b || (r || false))
    go k b r e = grind (arith, nat_tests)
