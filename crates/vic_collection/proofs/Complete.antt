-- A collection that is complete: everything that should be there is there, and nothing else.
use Rattle.vic_collection.proofs.Words.{◌≡◌, ℕ, List, Bool, true, false, ◌&&◌, Option, Some, None, refl, sym, ap, ◌∙◌, subst, arith, inl, inr, ◌⊎◌, All, AllZip, Contains, MatchOption, Any-from_list_any, IsUid, both_ways, false≢true, get_or, slice_get_read, length, is_some, HasPossibleLog, IsSurveyOf, FitsTexts, MayHaveBeen, is_somewhere}
use Rattle.std.proofs.lemmas.Bool.{and_parts}
use Rattle.std.proofs.lemmas.Iterator.Adapters.{position_from-zero}
use Rattle.std.proofs.lemmas.List.Elements.{Contains-get_or}
use Rattle.std.proofs.lemmas.List.Sums.{length-filter}
use Rattle.vic_verdict.proofs.Masks.{mask_of, mask_of-alone, mask_of-value}
use Rattle.vic_table.specs.Values.{ItemValue}
use Rattle.vic_collection.specs.declared.answer.CollectionAnswer.TheVariants as answer
use Rattle.vic_collection.specs.declared.state.State.{State}
use Rattle.vic_collection.specs.declared.state.State.TheVariants.{Returned, Misplaced, Doubtful, NotCounted, Absent}
use Rattle.vic_collection.specs.Against.{IsFirstLogWith}
use Rattle.vic_collection.specs.Answers.{IsAnswer}
use Rattle.vic_collection.specs.Collections.{CollectionValue, is_certain_in, is_certain_somewhere, is_number, is_of_item, is_possible_somewhere, tells_nothing}
use Rattle.vic_collection.specs.Complete.{IsComplete, IsExpected, IsInPlace}
use Rattle.vic_collection.specs.Findings.{is_left_open}
use Rattle.vic_collection.specs.Joins.{is_expected, is_of_place}
use Rattle.vic_collection.specs.States.{is_certain_at, is_there, is_place_without_log, state_by, state_of}
use Rattle.vic_collection.proofs.Against.{certain, first_silent, possible}
use Rattle.vic_collection.proofs.Families.{beside_back, some_family}
use Rattle.vic_collection.proofs.Items.{certain_at_somewhere, item_with, state_if}
use Rattle.vic_collection.proofs.Surveys.{certain_in, is_uid_of}
use Rattle.vic_collection.proofs.Without.{filter_same}

-- ---- of one item

state_cases : (a s t p q n : Bool) → (t ≡ true → s ≡ true) → (st : State) → st ≡ state_if a s t p q n
    → (st ≡ Returned → ⊥) → (st ≡ Misplaced → ⊥) → (st ≡ Doubtful → ⊥) → (st ≡ NotCounted → ⊥) → (st ≡ Absent → ⊥)
    → ((a ≡ false) × (s ≡ true) × (p ≡ true → t ≡ true) × (is_there st ≡ true)) ⊎ ((a ≡ true) × (s ≡ false) × (q ≡ false) × (is_there st ≡ false))
state_cases true true t p q n f st e r m v c x = absurd (r e)
state_cases true false true p q n f st e r m v c x = absurd (false≢true (f refl))
state_cases true false false true true n f st e r m v c x = absurd (v e)
state_cases true false false false true n f st e r m v c x = absurd (v e)
state_cases true false false true false n f st e r m v c x = inr (refl, refl, refl, ap is_there e)
state_cases true false false false false n f st e r m v c x = inr (refl, refl, refl, ap is_there e)
state_cases false true true p q n f st e r m v c x = inl (refl, refl, (λ h. refl), ap is_there e)
state_cases false true false true q n f st e r m v c x = absurd (m e)
state_cases false true false false q n f st e r m v c x = inl (refl, refl, (λ h. absurd (false≢true h)), ap is_there e)
state_cases false false true p q n f st e r m v c x = absurd (false≢true (f refl))
state_cases false false false true true n f st e r m v c x = absurd (v e)
state_cases false false false false true n f st e r m v c x = absurd (v e)
state_cases false false false true false true f st e r m v c x = absurd (c e)
state_cases false false false false false true f st e r m v c x = absurd (c e)
state_cases false false false true false false f st e r m v c x = absurd (x e)
state_cases false false false false false false f st e r m v c x = absurd (x e)

-- ---- the collection

module _ (c : CollectionValue) (texts : List (List ℕ)) (count : ℕ) (says : AllZip IsSurveyOf texts c.surveys) (answer : IsAnswer c (answer.Complete count)) where
  all_possible : All HasPossibleLog texts
  all_possible = subst (λ o. MatchOption o (All HasPossibleLog texts) (IsFirstLogWith (λ text. HasPossibleLog text → ⊥) texts)) (sym (position_from-zero tells_nothing c.surveys) ∙ answer.0.0.0.0.0.0.0.0.0.0) (first_silent c texts says)

  -- an item with a UID is certain, in its place if it has one; or it is away, and not possible
  item_told : (item : ItemValue) (u : ℕ) → Contains c.catalogue.items item → item.uid ≡ Some u
      → ((item.away ≡ false) × (is_certain_somewhere c u ≡ true) × (is_some item.place ≡ true → is_certain_at c item.place u ≡ true) × (is_there (state_of c item) ≡ true))
      ⊎ ((item.away ≡ true) × (is_certain_somewhere c u ≡ false) × (is_possible_somewhere c u ≡ false) × (is_there (state_of c item) ≡ false))
  item_told item u among uid =
      let before = answer.0.0.0 in
      state_cases item.away (is_certain_somewhere c u) (is_certain_at c item.place u) (is_some item.place) (is_possible_somewhere c u) (is_place_without_log c item.place) (certain_at_somewhere c item.place u) (state_of c item) (ap (state_by c item) uid)
      (λ e. before.0.1 u (item, among, uid, e)) (λ e. before.0.0.1 u (item, among, uid, e)) (λ e. before.0.0.0.1 u (item, among, uid, e)) (λ e. before.1 u (item, among, uid, e)) (λ e. before.0.0.0.0.0.0.1 u (item, among, uid, e))

  item_of : (u : ℕ) → is_of_item c u ≡ true → (item : ItemValue) × Contains c.catalogue.items item × (item.uid ≡ Some u)
  item_of u h =
      let a = Any-from_list_any (λ item. is_number u item.uid) c.catalogue.items h in
      (a.1, (a.0, a.2, a.3), item_with u a.1.uid a.4)

  away_not_expected : (item : ItemValue) (u : ℕ) → item.uid ≡ Some u → item.away ≡ true → is_expected item ≡ true → ⊥
  away_not_expected item u uid away expected = both_ways (is_expected item) (rw (uid, away) refl) expected

  expected_of : (family : List (List ℕ)) → FitsTexts family texts → (u : ℕ) → is_somewhere family u ≡ true → IsExpected c u
  expected_of family fits u h =
      let is = is_uid_of texts u (family, fits, h) in
      go is ((possible c texts says u is).1 (family, fits, h)) (is_of_item c u) (is_certain_somewhere c u) refl refl where
        go : IsUid u → is_possible_somewhere c u ≡ true → (a b : Bool) → is_of_item c u ≡ a → is_certain_somewhere c u ≡ b → IsExpected c u
        go is possible true b of certain =
            let it = item_of u of in
            elim (item_told it.0 u it.1 it.2) [
              | inl t ↦ record { item = it.0; there = it.1; uid = it.2; expected = rw (it.2, t.0) refl }
              | inr t ↦ absurd (both_ways (is_possible_somewhere c u) t.2 possible)
            ]
        go is possible false true of certain = absurd (answer.0.0.0.0.0.0.0.0.1 u (rw (certain, of) refl))
        go is possible false false of certain =
            let left : is_left_open c u ≡ true = rw (possible, certain, of) refl in
            absurd (answer.0.0.0.0.0.0.0.1 (mask_of u) (omega arith, mask_of-value u, λ v other lies. rw (mask_of-alone u v is other lies) left))

  somewhere_of : (family : List (List ℕ)) → FitsTexts family texts → (u : ℕ) → IsExpected c u → is_somewhere family u ≡ true
  somewhere_of family fits u e = elim (item_told e.item u e.there e.uid) [
    | inl t ↦ (certain c texts says u).0 t.1 family fits
    | inr t ↦ absurd (away_not_expected e.item u e.uid t.0 e.expected)
  ]

  in_its_place : (family : List (List ℕ)) → FitsTexts family texts → (item : ItemValue) (place : List ℕ) (u : ℕ) → Contains c.catalogue.items item → is_expected item ≡ true → item.place ≡ Some place → item.uid ≡ Some u → IsInPlace c family place u
  in_its_place family fits item place u among expected of uid = elim (item_told item u among uid) [
    | inl t ↦
        let certain : is_certain_at c (Some place) u ≡ true = ap (λ o. is_certain_at c o u) (sym of) ∙ t.2 (ap is_some of) in
        let at = Any-from_list_any (λ s. is_of_place c place s && is_certain_in s u) c.surveys certain in
        let both = and_parts (is_of_place c place at.1) (is_certain_in at.1 u) at.4 in
        let here = slice_get_read c.surveys (length c.surveys) at.0 at.1 refl at.2 (sym at.3) in
        let text = beside_back IsSurveyOf texts c.surveys at.0 at.1 says here in
        let p = beside_back MayHaveBeen family texts at.0 text.0 fits text.1 in
        record { position = at.0; survey = at.1; population = p.0; its_log = here; its_population = p.1; of_place = both.0; there = (certain_in text.0 at.1.field text.2 u).0 both.1 p.0 p.2 }
    | inr t ↦ absurd (away_not_expected item u uid t.0 expected)
  ]

  same_count : (item : ItemValue) → Contains c.catalogue.items item → (o : Option ℕ) → item.uid ≡ o → is_there (state_of c item) ≡ is_expected item
  same_count item among None uid = rw uid refl
  same_count item among (Some u) uid = elim (item_told item u among uid) [
    | inl t ↦ t.3 ∙ sym (expected_is t.0)
    | inr t ↦ t.3 ∙ sym (away_is t.0)
  ] where
    expected_is : item.away ≡ false → is_expected item ≡ true
    expected_is here = rw (uid, here) refl

    away_is : item.away ≡ true → is_expected item ≡ false
    away_is away = rw (uid, away) refl

  pub complete : IsComplete c texts count
  complete =
      let family = some_family texts in
      let items = c.catalogue.items in
      record {
        possible = all_possible;
        family = family.0;
        fits = family.1;
        exact = λ f fits u. (expected_of f fits u, somewhere_of f fits u);
        in_place = in_its_place;
        counted = answer.1 ∙ (sym (length-filter (λ item. is_there (state_of c item)) items) ∙ (ap length (filter_same (λ item. is_there (state_of c item)) is_expected items (λ k d lt. same_count (get_or items k d) (Contains-get_or items k d lt) (get_or items k d).uid refl)) ∙ length-filter is_expected items));
      }
