-- A collection whose catalogue is a list of UIDs.
use Rattle.vic_collection.proofs.Words.{◌≡◌, ◌<◌, ℕ, suc, zero, List, [], ◌∷◌, Bool, true, false, ◌&&◌, not, cond, Some, None, Option, is_some, refl, sym, ap, subst, ◌∙◌, arith, ◌↔◌, All, AllZip, Contains, MatchOption, map, get_or, get_or_from_slice_get, slice_get_within, Any-from_list_any, list_any-from_Any, length, both_ways, has, has_here, IsUid, list_any, HasPossibleLog, IsSurveyOf, IsCertainUid, IsPossibleUid}
use Rattle.std.specs.Prelude.{count_by}
use Rattle.std.specs.List.{filter, position_from}
use Rattle.std.proofs.lemmas.Iterator.Adapters.{position_from-zero}
use Rattle.std.proofs.lemmas.List.{length-map}
use Rattle.std.proofs.lemmas.List.Elements.{All-head, All-tail, Contains-get_or}
use Rattle.std.proofs.lemmas.List.Folds.{list_any_none}
use Rattle.std.proofs.lemmas.List.Sums.{length-filter}
use Rattle.vic_table.specs.Listed.{IsListCatalogue, IsListed}
use Rattle.vic_table.specs.Values.{ItemValue}
use Rattle.vic_verdict.specs.Rising.{IsListOf}
use Rattle.vic_verdict.specs.Verdict.{NoSuch}
use Rattle.vic_verdict.proofs.Failing.{list_as}
use Rattle.vic_verdict.proofs.Masks.{IsUid-in, lies_in-uid_in, uid_in}
use Rattle.vic_collection.specs.declared.findings.Findings.{Findings}
use Rattle.vic_collection.specs.declared.found_items.FoundItem.{FoundItem}
use Rattle.vic_collection.specs.declared.state.State.{State}
use Rattle.vic_collection.specs.declared.state.State.TheVariants.{Returned, Misplaced, There, Doubtful, NotCounted, Absent}
use Rattle.vic_collection.specs.Against.{AreFindingsAgainst, AreOfNoPlace, HaveUids, IsFirstLogWith, IsWhole}
use Rattle.vic_collection.specs.Collections.{CollectionValue, asks_for_places, is_certain_somewhere, is_number, is_of_item, is_possible_somewhere, is_unlisted, positions_from, tells_nothing}
use Rattle.vic_collection.specs.Findings.{AreFindings, IsUidIn, IsUnsettled}
use Rattle.vic_collection.specs.Joins.{each_once, is_expected, is_left_over, is_without_log, places_asked_for, places_without_log}
use Rattle.vic_collection.specs.States.{is_looked_for, is_there, is_place_without_log, state_by, state_of}
use Rattle.vic_collection.specs.declared.answer.CollectionAnswer.TheVariants as answer
use Rattle.vic_collection.specs.Answers.{IsAnswer}
use Rattle.vic_collection.specs.Complete.{IsExpected}
use Rattle.vic_collection.proofs.Against.{absent_as, against_logs, certain, doubtful_as, first_silent, mask_as, unlisted_as, unsettled_as}
use Rattle.vic_collection.proofs.Complete.{complete}
use Rattle.vic_collection.proofs.Families.{some_family}
use Rattle.vic_collection.proofs.Halves.{positions_from-none}
use Rattle.vic_collection.proofs.Items.{item_with, number_of}

-- ---- the UIDs of the items

any_number : (u : ℕ) (items : List ItemValue) (uids : List ℕ) → map (λ (item : ItemValue). item.uid) items ≡ map Some uids → list_any (λ item. is_number u item.uid) items ≡ has uids u
any_number u [] [] e = refl
any_number u [] (v ∷ uids) e = absurd cc
any_number u (item ∷ items) [] e = absurd cc
any_number u (item ∷ items) (v ∷ uids) e =
    let first : item.uid ≡ Some v = cc in
    let rest : map (λ (i : ItemValue). i.uid) items ≡ map Some uids = cc in
    rw (first, any_number u items uids rest) refl

same_any : {X : Type 0} (p q : X → Bool) (xs : List X) → All (λ x. p x ≡ q x) xs → list_any p xs ≡ list_any q xs
same_any p q [] same = refl
same_any p q (x ∷ xs) same = rw (All-head (λ y. p y ≡ q y) x xs same, same_any p q xs (All-tail (λ y. p y ≡ q y) x xs same)) refl

-- ---- findings, by what is expected

told_as : (looked expected others : ℕ → Bool) (texts : List (List ℕ)) (f : Findings) → ((u : ℕ) → looked u ≡ others u) → ((u : ℕ) → expected u ≡ others u) → AreFindingsAgainst looked expected texts f → AreFindingsAgainst others others texts f
told_as looked expected others texts f same equal a = record {
  not_possible = a.not_possible;
  absent = list_as _ _ _ (λ u. rw (same u) ((λ h. h), (λ h. h))) a.absent;
  unlisted = list_as _ _ _ (λ u. rw (equal u) ((λ h. h), (λ h. h))) a.unlisted;
  unlisted_told = a.unlisted_told;
  unsettled = mask_as _ _ f.unsettled (λ m. ((λ h. (h.0, h.1, λ u is lies. let w = h.2 u is lies in (w.0, sym (equal u) ∙ w.1))), (λ h. (h.0, h.1, λ u is lies. let w = h.2 u is lies in (w.0, equal u ∙ w.1))))) a.unsettled;
  doubtful = list_as _ _ _ (λ u. rw (equal u) ((λ h. h), (λ h. h))) a.doubtful;
}

-- ---- what isn't found

no_list : {X : Type 0} (P : ℕ → Type 0) (uid : X → ℕ) (xs : List X) → NoSuch P → IsListOf P (map uid xs) → xs ≡ []
no_list P uid [] none l = refl
no_list P uid (x ∷ xs) none l = absurd (none (uid x) ((l.members (uid x)).0 (has_here (uid x) (map uid xs))))

nothing_mapped : {X Y : Type 0} (f : X → Y) (xs : List X) → map f xs ≡ [] → xs ≡ []
nothing_mapped f [] e = refl
nothing_mapped f (x ∷ xs) e = absurd cc

filter_none : {X : Type 0} (p : X → Bool) (xs : List X) → ((x : X) → p x ≡ false) → filter p xs ≡ []
filter_none p [] none = refl
filter_none p (x ∷ xs) none = rw (none x, filter_none p xs none) refl

-- ---- the state of an item

pub listed_state : (c : CollectionValue) (item : ItemValue) (u : ℕ) → IsListed item → item.uid ≡ Some u → state_of c item ≡ cond (is_certain_somewhere c u) There (cond (is_possible_somewhere c u) Doubtful Absent)
listed_state c item u listed uid = ap (state_by c item) uid ∙ rw (listed.0, listed.1) refl

other_than : (s q : Bool) (st : State) → cond s There (cond q Doubtful Absent) ≡ st → (st ≡ Returned → ⊥) × (st ≡ Misplaced → ⊥) × (st ≡ NotCounted → ⊥)
other_than true q st e = ((λ h. absurd cc), (λ h. absurd cc), (λ h. absurd cc))
other_than false true st e = ((λ h. absurd cc), (λ h. absurd cc), (λ h. absurd cc))
other_than false false st e = ((λ h. absurd cc), (λ h. absurd cc), (λ h. absurd cc))

-- ---- the collection

module _ (c : CollectionValue) (expected : List ℕ) (is : IsListCatalogue c.catalogue expected) where
  pub of_item_as : (u : ℕ) → is_of_item c u ≡ has expected u
  of_item_as u = any_number u c.catalogue.items expected is.uids_are

  looked_for_as : (u : ℕ) → is_looked_for c u ≡ has expected u
  looked_for_as u = same_any _ (λ item. is_number u item.uid) c.catalogue.items (λ k d lt. one (get_or c.catalogue.items k d) (is.listed k d lt)) ∙ of_item_as u where
    and_true : (b : Bool) → (b && true) ≡ b
    and_true true = refl
    and_true false = refl

    one : (item : ItemValue) → IsListed item → (is_number u item.uid && (not item.away && not (is_place_without_log c item.place))) ≡ is_number u item.uid
    one item listed = rw (listed.0, listed.1) (and_true (is_number u item.uid))

  other_states : (u : ℕ) → (IsUidIn c Returned u → ⊥) × (IsUidIn c Misplaced u → ⊥) × (IsUidIn c NotCounted u → ⊥)
  other_states u = (
    (λ w. (states w.0 w.1 w.2).0 w.3),
    (λ w. (states w.0 w.1 w.2).1 w.3),
    (λ w. (states w.0 w.1 w.2).2 w.3),
  ) where
    states : (item : ItemValue) → Contains c.catalogue.items item → item.uid ≡ Some u → (state_of c item ≡ Returned → ⊥) × (state_of c item ≡ Misplaced → ⊥) × (state_of c item ≡ NotCounted → ⊥)
    states item among uid =
        let listed = subst IsListed among.2 (is.listed among.0 item among.1) in
        other_than (is_certain_somewhere c u) (is_possible_somewhere c u) (state_of c item) (sym (listed_state c item u listed uid))

  no_places : asks_for_places c ≡ false
  no_places = ap is_some is.no_places

  pub none_without_log : places_without_log c ≡ []
  none_without_log = filter_none (is_without_log c) (each_once (places_asked_for c)) (λ place. rw no_places refl)

  pub none_left_over : positions_from (is_left_over c) 0 c.surveys ≡ []
  none_left_over = positions_from-none (is_left_over c) 0 c.surveys (list_any_none (is_left_over c) c.surveys (λ k d lt. rw no_places refl))

  pub of_no_place : (f : Findings) → AreFindings c f → AreOfNoPlace f
  of_no_place f a = record {
    misplaced = no_list (IsUidIn c Misplaced) (λ (x : FoundItem). x.uid) f.misplaced.items (λ u. (other_states u).1) a.misplaced.uids;
    returned = no_list (IsUidIn c Returned) (λ (x : FoundItem). x.uid) f.returned.items (λ u. (other_states u).0) a.returned.uids;
    not_counted = no_list (IsUidIn c NotCounted) (λ (x : FoundItem). x.uid) f.not_counted.items (λ u. (other_states u).2) a.not_counted.uids;
    without_log = nothing_mapped _ f.without_log.items (a.without_log ∙ none_without_log);
    left_over = a.left_over ∙ none_left_over;
  }

  pub against_list : (texts : List (List ℕ)) → ((u : ℕ) → has expected u ≡ true → IsUid u) → AllZip IsSurveyOf texts c.surveys → (f : Findings) → AreFindings c f → AreFindingsAgainst (has expected) (has expected) texts f
  against_list texts uids says f a = told_as (is_looked_for c) (is_of_item c) (has expected) texts f looked_for_as of_item_as (against_logs c texts says (λ u of. uids u (sym (of_item_as u) ∙ of)) f a)

-- ---- complete against a list

every_kept : {X : Type 0} (p : X → Bool) (xs : List X) → All (λ x. p x ≡ true) xs → filter p xs ≡ xs
every_kept p [] all = refl
every_kept p (x ∷ xs) all = rw (All-head (λ y. p y ≡ true) x xs all, every_kept p xs (All-tail (λ y. p y ≡ true) x xs all)) refl

all_counted : {X : Type 0} (p : X → Bool) (xs : List X) → All (λ x. p x ≡ true) xs → count_by p xs ≡ length xs
all_counted p xs all = sym (length-filter p xs) ∙ ap length (every_kept p xs all)

-- an item of a list has one of its UIDs
number_at : (items : List ItemValue) (uids : List ℕ) → map (λ (item : ItemValue). item.uid) items ≡ map Some uids → (k : ℕ) (d : ItemValue) → k < length items → (u : ℕ) × ((get_or items k d).uid ≡ Some u)
number_at [] uids e k d lt = absurd (omega arith)
number_at (item ∷ items) [] e k d lt = absurd cc
number_at (item ∷ items) (v ∷ uids) e zero d lt = let first : item.uid ≡ Some v = cc in (v, first)
number_at (item ∷ items) (v ∷ uids) e (suc k) d lt = let rest : map (λ (i : ItemValue). i.uid) items ≡ map Some uids = cc in number_at items uids rest k d (omega arith)

same_length : (items : List ItemValue) (uids : List ℕ) → map (λ (item : ItemValue). item.uid) items ≡ map Some uids → length items ≡ length uids
same_length items uids e = sym (length-map items (λ (item : ItemValue). item.uid)) ∙ (ap length e ∙ length-map uids (λ (u : ℕ). Some u))

module _ (c : CollectionValue) (expected : List ℕ) (is : IsListCatalogue c.catalogue expected) where
  item_expected : (item : ItemValue) (u : ℕ) → IsListed item → item.uid ≡ Some u → is_expected item ≡ true
  item_expected item u listed uid = rw (uid, listed.1) refl

  expected_as : (u : ℕ) → IsExpected c u ↔ (has expected u ≡ true)
  expected_as u = (
    (λ e. sym (of_item_as c expected is u) ∙ list_any-from_Any (λ item. is_number u item.uid) c.catalogue.items (e.there.0, e.item, e.there.1, e.there.2, number_of u e.item.uid e.uid)),
    (λ h.
        let a = Any-from_list_any (λ item. is_number u item.uid) c.catalogue.items (of_item_as c expected is u ∙ h) in
        let uid = item_with u a.1.uid a.4 in
        record { item = a.1; there = (a.0, a.2, a.3); uid = uid; expected = item_expected a.1 u (subst IsListed a.3 (is.listed a.0 a.1 a.2)) uid }),
  )

  all_are : (test : ItemValue → Bool) → ((item : ItemValue) (u : ℕ) → IsListed item → item.uid ≡ Some u → has expected u ≡ true → test item ≡ true) → count_by test c.catalogue.items ≡ length expected
  all_are test passes = all_counted test c.catalogue.items (λ k d lt.
      let item = get_or c.catalogue.items k d in
      let w = number_at c.catalogue.items expected is.uids_are k d lt in
      let among = Contains-get_or c.catalogue.items k d lt in
      let of = list_any-from_Any (λ i. is_number w.0 i.uid) c.catalogue.items (among.0, item, among.1, among.2, number_of w.0 item.uid w.1) in
      passes item w.0 (is.listed k d lt) w.1 (sym (of_item_as c expected is w.0) ∙ of)) ∙ same_length c.catalogue.items expected is.uids_are

  module _ (texts : List (List ℕ)) (uids : (u : ℕ) → has expected u ≡ true → IsUid u) (says : AllZip IsSurveyOf texts c.surveys) (count : ℕ) where
    whole_from : IsAnswer c (answer.Complete count) → IsWhole expected texts × (count ≡ length expected)
    whole_from a =
        let w = complete c texts count says a in (
          record {
            possible = w.possible;
            exact = λ family fits u. let e = w.exact family fits u in let x = expected_as u in ((λ h. x.0 (e.0 h)), (λ h. e.1 (x.1 h)));
          },
          w.counted ∙ all_are is_expected (λ item u listed uid h. item_expected item u listed uid),
        )

    module _ (w : IsWhole expected texts) where
      sure : (u : ℕ) → has expected u ≡ true → IsCertainUid texts u
      sure u h family fits = (w.exact family fits u).1 h

      listed_if : (u : ℕ) → IsPossibleUid texts u → has expected u ≡ true
      listed_if u p = (w.exact p.0 p.1 u).0 p.2

      may : (u : ℕ) → IsCertainUid texts u → IsPossibleUid texts u
      may u k = let f = some_family texts in (f.0, f.1, k f.0 f.1)

      own : HaveUids c
      own u of = uids u (sym (of_item_as c expected is u) ∙ of)

      -- a UID of no item is not expected
      not_listed : (u : ℕ) → is_of_item c u ≡ false → has expected u ≡ true → ⊥
      not_listed u e h = both_ways (has expected u) (sym (of_item_as c expected is u) ∙ e) h

      none_silent : (o : Option ℕ) → MatchOption o (All HasPossibleLog texts) (IsFirstLogWith (λ text. HasPossibleLog text → ⊥) texts) → o ≡ None
      none_silent None first = refl
      none_silent (Some n) first =
          let text = first.0.0 in
          let lt = slice_get_within texts n text first.0.1 in
          absurd (first.0.2 (subst HasPossibleLog (get_or_from_slice_get texts n text text first.0.1) (w.possible n text lt)))

      there_at : (item : ItemValue) (u : ℕ) → IsListed item → item.uid ≡ Some u → has expected u ≡ true → is_there (state_of c item) ≡ true
      there_at item u listed uid h =
          let here : is_certain_somewhere c u ≡ true = (certain c texts says u).1 (sure u h) in
          ap is_there (listed_state c item u listed uid) ∙ rw here refl

      whole_to : count ≡ length expected → IsAnswer c (answer.Complete count)
      whole_to counted =
          let silent = position_from-zero tells_nothing c.surveys ∙ none_silent (position_from tells_nothing 0 c.surveys) (first_silent c texts says) in
          let none_absent : NoSuch (IsUidIn c Absent) = λ u m. let x = (absent_as c texts says own u).0 m in x.1 (may u (sure u (sym (looked_for_as c expected is u) ∙ x.0))) in
          let none_unlisted : NoSuch (λ u. is_unlisted c u ≡ true) = λ u m. let x = (unlisted_as c texts says u).0 m in not_listed u x.1 (listed_if u (may u x.0)) in
          let none_unsettled : NoSuch (IsUnsettled c) = λ m h. let x = (unsettled_as c texts says m).0 h in let y = x.2 (uid_in m) (IsUid-in m x.0 x.1) (lies_in-uid_in m x.0 x.1) in not_listed (uid_in m) y.1 (listed_if (uid_in m) y.0.0) in
          let none_doubtful : NoSuch (IsUidIn c Doubtful) = λ u m. let x = (doubtful_as c texts says own u).0 m in x.1.1 (sure u (sym (of_item_as c expected is u) ∙ x.0)) in
          let others = other_states c expected is in
          ((
            (((((((((silent, none_absent), none_unlisted), none_unsettled), none_doubtful), λ u. (others u).1), λ u. (others u).0), λ u. (others u).2), none_without_log c expected is), none_left_over c expected is),
            counted ∙ sym (all_are (λ item. is_there (state_of c item)) there_at),
          ))

    pub complete_against_list : IsAnswer c (answer.Complete count) ↔ (IsWhole expected texts × (count ≡ length expected))
    complete_against_list = (whole_from, (λ w. whole_to w.0 w.1))
