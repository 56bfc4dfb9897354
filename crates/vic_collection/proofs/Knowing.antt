-- Logs with the names by which the logs before them are known.
use Rattle.vic_collection.proofs.Words.{◌≡◌, refl, [], ◌∷◌, Option, ℕ, ◌+◌, ◌<◌, ◌≤◌, List, true, false, ◌||◌, Some, sym, ap, ◌∙◌, arith, take, slice_get, list_any, both_ways, cases_lt, inl, inr, SurveyValue, slice_get_within, length}
use Rattle.std.specs.Borrow.{Bor}
use Rattle.std.specs.BTreeMap.{BTreeMap}
use Rattle.std.specs.BTreeSet.{BTreeSet}
use Rattle.std.specs.Prelude.{option_to_list}
use Rattle.vic_collection.specs.Collections.{CollectionValue}
use Rattle.vic_collection.specs.Alike.{IsAlike, first_leading, is_among, known_by, knows_one}
use Rattle.vic_collection.specs.Found.{found_by}
use Rattle.vic_collection.specs.Joins.{place_by_name}
use Rattle.vic_collection.specs.inner.NameSets.{has_name, lead}
use Rattle.vic_collection.proofs.Elements.{list_any-same, list_any_next}

-- functions with the same values lead to the same name
pub first_leading-same : (f g : List ℕ → Option (List ℕ)) → ((q : List ℕ) → f q ≡ g q) → (names : List (List ℕ)) → first_leading f names ≡ first_leading g names
first_leading-same f g h [] = refl
first_leading-same f g h (name ∷ names) = rw (h name, first_leading-same f g h names) refl

-- a name, and the key to which it leads, as those by which a log is known
pub as_known : (c : CollectionValue) (s : SurveyValue) (leads : BTreeMap (Bor (List ℕ)) (Bor (List ℕ))) (name : List ℕ) (key : Option (List ℕ)) → ((q : List ℕ) → lead leads q ≡ place_by_name c q) → name ≡ s.name → key ≡ first_leading (lead leads) (found_by name) → name ∷ option_to_list key ≡ known_by c s
as_known c s leads name key h e k = rw (k, first_leading-same (lead leads) (place_by_name c) h (found_by name), e) refl

module _ (c : CollectionValue) (i : ℕ) (s : SurveyValue) (at : slice_get c.surveys i ≡ Some s) (names : BTreeSet (Bor (List ℕ))) (known : (q : List ℕ) → has_name names q ≡ knows_one c (take i c.surveys) q) where
  same : list_any (has_name names) (known_by c s) ≡ list_any (knows_one c (take i c.surveys)) (known_by c s)
  same = list_any-same (has_name names) (knows_one c (take i c.surveys)) known (known_by c s)

  pub alike_here : list_any (has_name names) (known_by c s) ≡ true → IsAlike c i
  alike_here h = record { survey = s; there = at; alike = sym same ∙ h }

  pub not_alike : list_any (has_name names) (known_by c s) ≡ false → IsAlike c i → ⊥
  not_alike h d =
      let one : d.survey ≡ s = cc (d.there, at) in
      both_ways (list_any (knows_one c (take i c.surveys)) (known_by c s)) (sym same ∙ h) (ap (λ t. list_any (knows_one c (take i c.surveys)) (known_by c t)) (sym one) ∙ d.alike)

  pub none_upto : list_any (has_name names) (known_by c s) ≡ false → ((k : ℕ) → k < i → IsAlike c k → ⊥) → (k : ℕ) → k < i + 1 → IsAlike c k → ⊥
  none_upto h none k lt d = elim (cases_lt k i) [
    | inl below ↦ none k below d
    | inr above ↦ let e : k ≡ i = omega arith in not_alike h (rw e at d)
  ]

  pub known_upto : (new : BTreeSet (Bor (List ℕ))) (both : List (List ℕ)) → both ≡ known_by c s → ((q : List ℕ) → has_name new q ≡ (has_name names q || is_among both q)) → (q : List ℕ) → has_name new q ≡ knows_one c (take (i + 1) c.surveys) q
  known_upto new both e h q = h q ∙ (rw (known q, e) (sym (list_any_next (λ t. is_among (known_by c t) q) c.surveys i s at)))

pub first_there : (c : CollectionValue) (i : ℕ) → ((k : ℕ) → k < i → IsAlike c k → ⊥) → (m : ℕ) → IsAlike c m → i ≤ m
first_there c i none m d = elim (cases_lt m i) [
  | inl below ↦ absurd (none m below d)
  | inr above ↦ above
]

pub none_there : (c : CollectionValue) (i : ℕ) → length c.surveys ≤ i → ((k : ℕ) → k < i → IsAlike c k → ⊥) → (m : ℕ) → IsAlike c m → ⊥
none_there c i end none m d = none m (omega (arith, slice_get_within c.surveys m d.survey d.there)) d
