-- Sets of names, and the places to which names lead.
use Rattle.vic_collection.proofs.Words.{◌≡◌, ℕ, List, Bool, true, false, ◌||◌, cond, refl, ◌∙◌}
use Rattle.std.specs.Borrow.{Bor}
use Rattle.std.specs.BTreeMap.{is_at}
use Rattle.std.specs.BTreeSet.{BTreeSet, contains}
use Rattle.std.specs.Cmp.Lexicographic.{slice_cmp}
use Rattle.std.specs.Ordering.{nat_cmp}
use Rattle.std.specs.Str.{bytes_eq}
use Rattle.std.proofs.lemmas.Map.Text.{is_eq-slice_cmp}
use Rattle.vic_collection.specs.inner.NameSets.{has_name}

-- the set with one name more
pub has_name-insert : (old new : BTreeSet (Bor (List ℕ))) (key : Bor (List ℕ)) (q : List ℕ) → ((k : Bor (List ℕ)) → contains (λ x y. slice_cmp nat_cmp x.now y.now) new k ≡ cond (is_at (λ y. slice_cmp nat_cmp key.now y.now) k) true (contains (λ x y. slice_cmp nat_cmp x.now y.now) old k))
    → has_name new q ≡ (has_name old q || bytes_eq key.now q)
has_name-insert old new key q more = more (record { ref_ptr = (0, 0); now = q }) ∙ rw (is_eq-slice_cmp key.now q) (go (bytes_eq key.now q) (has_name old q)) where
  go : (k o : Bool) → cond k true o ≡ (o || k)
  go true true = refl
  go true false = refl
  go false true = refl
  go false false = refl
