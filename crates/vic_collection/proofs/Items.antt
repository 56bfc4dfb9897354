-- The state of one item, by what the logs say of its UID.
use Rattle.vic_collection.proofs.Words.{◌≡◌, ℕ, List, [], ◌∷◌, Bool, true, false, ◌&&◌, ◌||◌, cond, Some, None, Option, refl, sym, ap, ◌∙◌, eqb-true, eq-eqb, false≢true, list_any, SurveyValue}
use Rattle.vic_collection.specs.declared.state.State.{State}
use Rattle.vic_collection.specs.declared.state.State.TheVariants.{Returned, InPlace, Misplaced, There, Doubtful, Away, NotCounted, Absent}
use Rattle.vic_collection.specs.Collections.{CollectionValue, is_certain_in, is_certain_somewhere, is_number}
use Rattle.vic_collection.specs.Joins.{is_of_place}
use Rattle.vic_collection.specs.States.{is_certain_at}

-- ---- its UID

pub item_with : (u : ℕ) (o : Option ℕ) → is_number u o ≡ true → o ≡ Some u
item_with u None e = absurd (false≢true e)
item_with u (Some v) e = ap Some (sym (eqb-true u v e))

pub number_of : (u : ℕ) (o : Option ℕ) → o ≡ Some u → is_number u o ≡ true
number_of u o e = rw e (eq-eqb u u refl)

-- ---- where it is certain

any_second : (test other : SurveyValue → Bool) (surveys : List SurveyValue) → list_any (λ s. test s && other s) surveys ≡ true → list_any other surveys ≡ true
any_second test other [] h = h
any_second test other (s ∷ surveys) h = go (test s) (other s) h (any_second test other surveys) where
  go : (a b : Bool) → ((a && b) || list_any (λ t. test t && other t) surveys) ≡ true → (list_any (λ t. test t && other t) surveys ≡ true → list_any other surveys ≡ true) → (b || list_any other surveys) ≡ true
  go a true e rest = refl
  go true false e rest = rest e
  go false false e rest = rest e

pub certain_at_somewhere : (c : CollectionValue) (place : Option (List ℕ)) (u : ℕ) → is_certain_at c place u ≡ true → is_certain_somewhere c u ≡ true
certain_at_somewhere c None u h = absurd (false≢true h)
certain_at_somewhere c (Some place) u h = any_second (is_of_place c place) (λ s. is_certain_in s u) c.surveys h

-- ---- its state: whether it is away, certain, certain in its place, of a place, possible, and its place without a log

abbrev pub state_if : (a s t p q n : Bool) → State
state_if a s t p q n = cond (a && s) Returned (cond t InPlace (cond (p && s) Misplaced (cond s There (cond q Doubtful (cond a Away (cond n NotCounted Absent))))))

pub missing_from : (a s t p q n : Bool) → state_if a s t p q n ≡ Absent → (q ≡ false) × (a ≡ false) × (n ≡ false)
missing_from true true t p q n e = absurd cc
missing_from true false true p q n e = absurd cc
missing_from true false false true true n e = absurd cc
missing_from true false false false true n e = absurd cc
missing_from true false false true false n e = absurd cc
missing_from true false false false false n e = absurd cc
missing_from false s true p q n e = absurd cc
missing_from false true false true q n e = absurd cc
missing_from false true false false q n e = absurd cc
missing_from false false false true true n e = absurd cc
missing_from false false false false true n e = absurd cc
missing_from false false false true false true e = absurd cc
missing_from false false false false false true e = absurd cc
missing_from false false false p false false e = (refl, refl, refl)

pub missing_to : (a s t p q n : Bool) → (t ≡ true → s ≡ true) → s ≡ false → q ≡ false → a ≡ false → n ≡ false → state_if a s t p q n ≡ Absent
missing_to a s true p q n in_some never none here counted = absurd (false≢true (sym never ∙ in_some refl))
missing_to a s false true q n in_some never none here counted = rw (never, none, here, counted) refl
missing_to a s false false q n in_some never none here counted = rw (never, none, here, counted) refl

pub unproved_from : (a s t p q n : Bool) → state_if a s t p q n ≡ Doubtful → (s ≡ false) × (q ≡ true)
unproved_from true true t p q n e = absurd cc
unproved_from true false true p q n e = absurd cc
unproved_from true false false p true n e = (refl, refl)
unproved_from true false false true false n e = absurd cc
unproved_from true false false false false n e = absurd cc
unproved_from false s true p q n e = absurd cc
unproved_from false true false true q n e = absurd cc
unproved_from false true false false q n e = absurd cc
unproved_from false false false p true n e = (refl, refl)
unproved_from false false false true false true e = absurd cc
unproved_from false false false true false false e = absurd cc
unproved_from false false false false false true e = absurd cc
unproved_from false false false false false false e = absurd cc

pub unproved_to : (a s t p q n : Bool) → (t ≡ true → s ≡ true) → s ≡ false → q ≡ true → state_if a s t p q n ≡ Doubtful
unproved_to a s true p q n in_some never may = absurd (false≢true (sym never ∙ in_some refl))
unproved_to true s false true q n in_some never may = rw (never, may) refl
unproved_to true s false false q n in_some never may = rw (never, may) refl
unproved_to false s false true q n in_some never may = rw (never, may) refl
unproved_to false s false false q n in_some never may = rw (never, may) refl
