-- Two lists of the same UIDs have the same findings.
use Rattle.vic_collection.proofs.Words.{◌≡◌, ◌&&◌, not, arith, inl, inr, cases_lt, get_or, slice_get, slice_get_within, get_or_from_slice_get, IsStrictlyIncreasing, AllPairs-from_increasing, ◌+◌, ◌<◌, ◌↔◌, ℕ, List, [], ◌∷◌, Bool, true, false, cond, nat_eq, Some, is_some, list_any, map, refl, sym, ap, subst, ◌∙◌, All, Contains, Any-from_list_any, list_any-from_Any, has, SurveyValue}
use Rattle.std.specs.Prelude.{count_by, position}
use Rattle.std.specs.List.Sorted.{IsPermutation}
use Rattle.std.proofs.lemmas.List.{get_or-map, get_or_default, length-map}
use Rattle.std.proofs.lemmas.List.Elements.{All-head, All-tail}
use Rattle.std.proofs.lemmas.List.Sums.{sum_by-cons}
use Rattle.std.proofs.lemmas.List.Sorted.{list_any-IsPermutation, sum_by-IsPermutation}
use Rattle.vic_frame.specs.Masks.{BitMask}
use Rattle.vic_tree.specs.declared.open_masks.OpenMasks.{OpenMasks}
use Rattle.vic_report.specs.Findings.{uids_of}
use Rattle.vic_report.specs.declared.shown.ShownUid.{ShownUid}
use Rattle.vic_survey.specs.Surveys.{AreSurveys, IsFieldInRange}
use Rattle.vic_survey.specs.declared.survey.SurveyedField.{SurveyedField}
use Rattle.vic_survey.specs.declared.survey.SurveyedField.TheVariants.{Refused, Impossible, Possible}
use Rattle.vic_table.specs.Listed.{IsListCatalogue, IsListed}
use Rattle.vic_table.specs.Values.{ItemValue}
use Rattle.vic_collection.specs.declared.findings.Findings.{Findings}
use Rattle.vic_collection.specs.declared.state.State.{State}
use Rattle.vic_collection.specs.declared.state.State.TheVariants.{There, Doubtful, Absent}
use Rattle.vic_collection.specs.declared.unlisted.UnlistedUid.{UnlistedUid}
use Rattle.vic_collection.specs.Against.{Agree}
use Rattle.vic_collection.specs.Collections.{CollectionValue, certain_logs, is_certain_in, is_certain_somewhere, is_number, is_of_item, is_possible_in, is_possible_somewhere, is_unlisted, positions_from, tells_nothing}
use Rattle.vic_collection.specs.Findings.{AreFindings, AreOpenMasksOfSurvey, IsShownBy, IsShownFirst, IsUidIn, IsUnsettled, is_left_open}
use Rattle.vic_collection.specs.States.{is_there, state_of}
use Rattle.vic_collection.proofs.Agreeing.{same_first, same_list}
use Rattle.vic_collection.proofs.Halves.{position_at}
use Rattle.vic_collection.proofs.Items.{item_with, number_of}
use Rattle.vic_collection.proofs.Lists.{listed_state, of_item_as, of_no_place}

-- the state of what is listed, by whether its UID is certain and possible
abbrev state_told : Bool → Bool → State
state_told s q = cond s There (cond q Doubtful Absent)

there_if : (s q : Bool) → is_there (state_told s q) ≡ s
there_if true q = refl
there_if false true = refl
there_if false false = refl

-- a count is a sum
abbrev one_if : {X : Type 0} → (X → Bool) → X → ℕ
one_if p x = cond (p x) 1 0

count_by-IsPermutation : (p : ℕ → Bool) (us vs : List ℕ) → IsPermutation us vs → count_by p us ≡ count_by p vs
count_by-IsPermutation p us vs same = sym (sum_by-IsPermutation (one_if p) us vs same)

module _ (c : CollectionValue) (expected : List ℕ) (is : IsListCatalogue c.catalogue expected) where
  uid_in_as : (state : State) (u : ℕ) → IsUidIn c state u ↔ ((has expected u ≡ true) × (state_told (is_certain_somewhere c u) (is_possible_somewhere c u) ≡ state))
  uid_in_as state u = (
    (λ w. (
      sym (of_item_as c expected is u) ∙ list_any-from_Any (λ item. is_number u item.uid) c.catalogue.items (w.1.0, w.0, w.1.1, w.1.2, number_of u w.0.uid w.2),
      sym (listed_state c w.0 u (subst IsListed w.1.2 (is.listed w.1.0 w.0 w.1.1)) w.2) ∙ w.3,
    )),
    (λ h.
        let a = Any-from_list_any (λ item. is_number u item.uid) c.catalogue.items (of_item_as c expected is u ∙ h.0) in
        let uid = item_with u a.1.uid a.4 in
        (a.1, (a.0, a.2, a.3), uid, listed_state c a.1 u (subst IsListed a.3 (is.listed a.0 a.1 a.2)) uid ∙ h.1)),
  )

  abbrev there : ItemValue → Bool
  there item = is_there (state_of c item)

  counted_as : (items : List ItemValue) (uids : List ℕ) → map (λ (item : ItemValue). item.uid) items ≡ map Some uids → All IsListed items → count_by there items ≡ count_by (is_certain_somewhere c) uids
  counted_as [] [] e all = refl
  counted_as [] (v ∷ uids) e all = absurd cc
  counted_as (item ∷ items) [] e all = absurd cc
  counted_as (item ∷ items) (v ∷ uids) e all =
      let first : item.uid ≡ Some v = cc in
      let rest : map (λ (i : ItemValue). i.uid) items ≡ map Some uids = cc in
      let here : there item ≡ is_certain_somewhere c v = ap is_there (listed_state c item v (All-head IsListed item items all) first) ∙ there_if (is_certain_somewhere c v) (is_possible_somewhere c v) in
      let others = counted_as items uids rest (All-tail IsListed item items all) in
      sum_by-cons (one_if there) item items ∙ (ap (λ (b : Bool). cond b 1 0 + count_by there items) here ∙ (ap (λ n. cond (is_certain_somewhere c v) 1 0 + n) others ∙ sym (sum_by-cons (one_if (is_certain_somewhere c)) v uids)))

-- ---- of two collections over the same surveys

module _ (c d : CollectionValue) (expected others : List ℕ) (surveys : c.surveys ≡ d.surveys) (is : IsListCatalogue c.catalogue expected) (other : IsListCatalogue d.catalogue others) (order : IsPermutation expected others) where
  certain : (u : ℕ) → is_certain_somewhere c u ≡ is_certain_somewhere d u
  certain u = ap (λ (ss : List SurveyValue). list_any (λ s. is_certain_in s u) ss) surveys

  possible : (u : ℕ) → is_possible_somewhere c u ≡ is_possible_somewhere d u
  possible u = ap (λ (ss : List SurveyValue). list_any (λ s. is_possible_in s u) ss) surveys

  same_members : (u : ℕ) → has expected u ≡ has others u
  same_members u = list_any-IsPermutation (nat_eq u) expected others order

  of_item : (u : ℕ) → is_of_item c u ≡ is_of_item d u
  of_item u = of_item_as c expected is u ∙ (same_members u ∙ sym (of_item_as d others other u))

  uid_in : (state : State) (u : ℕ) → IsUidIn c state u ↔ IsUidIn d state u
  uid_in state u =
      let one = uid_in_as c expected is state u in
      let two = uid_in_as d others other state u in
      let told : state_told (is_certain_somewhere c u) (is_possible_somewhere c u) ≡ state_told (is_certain_somewhere d u) (is_possible_somewhere d u) = rw (certain u, possible u) refl in (
        (λ w. let h = one.0 w in two.1 (sym (same_members u) ∙ h.0, sym told ∙ h.1)),
        (λ w. let h = two.0 w in one.1 (same_members u ∙ h.0, told ∙ h.1)),
      )

  unlisted_same : (u : ℕ) → (is_unlisted c u ≡ true) ↔ (is_unlisted d u ≡ true)
  unlisted_same u = rw (certain u, of_item u) ((λ h. h), (λ h. h))

  left_open : (u : ℕ) → is_left_open c u ≡ is_left_open d u
  left_open u = rw (certain u, possible u, of_item u) refl

  unsettled : (m : BitMask) → IsUnsettled c m ↔ IsUnsettled d m
  unsettled m = ((λ h. (h.0, h.1, λ u at lies. sym (left_open u) ∙ h.2 u at lies)), (λ h. (h.0, h.1, λ u at lies. left_open u ∙ h.2 u at lies)))

  pub agree_by_lists : (f g : Findings) → AreFindings c f → AreFindings d g → Agree f g
  agree_by_lists f g a b =
      let p = of_no_place c expected is f a in
      let q = of_no_place d others other g b in
      record {
        not_possible = ap is_some (a.not_possible ∙ (ap (λ (ss : List SurveyValue). position tells_nothing ss) surveys ∙ sym b.not_possible));
        absent = same_list _ _ _ _ (uid_in Absent) a.absent.uids b.absent.uids;
        unlisted = same_list _ _ _ _ unlisted_same a.unlisted.uids b.unlisted.uids;
        unsettled = same_first _ _ _ _ unsettled a.unsettled b.unsettled;
        doubtful = same_list _ _ _ _ (uid_in Doubtful) a.doubtful.uids b.doubtful.uids;
        misplaced = rw (p.misplaced, q.misplaced) refl;
        returned = rw (p.returned, q.returned) refl;
        not_counted = rw (p.not_counted, q.not_counted) refl;
        without_log = rw (p.without_log, q.without_log) refl;
        count = a.count ∙ (counted_as c expected is c.catalogue.items expected is.uids_are is.listed ∙ (count_by-IsPermutation (is_certain_somewhere c) expected others order ∙ (same_counts ∙ (sym (counted_as d others other d.catalogue.items others other.uids_are other.listed) ∙ sym b.count))));
      }
    where
      same_counts : count_by (is_certain_somewhere c) others ≡ count_by (is_certain_somewhere d) others
      same_counts = ap (λ (ss : List SurveyValue). count_by (λ u. list_any (λ s. is_certain_in s u) ss) others) surveys

-- ---- the logs and lines that show what is unlisted

same_line : (certain : List ShownUid) → IsStrictlyIncreasing (uids_of certain) → (x y : ShownUid) → x.uid ≡ y.uid → Contains certain x → Contains certain y → x.line ≡ y.line
same_line certain up x y same a b = elim (cases_lt a.0 b.0) [
  | inl below ↦ absurd (apart x y a b below same)
  | inr above ↦ elim (cases_lt b.0 a.0) [
    | inl below ↦ absurd (apart y x b a below (sym same))
    | inr other ↦
        let one : a.0 ≡ b.0 = omega (arith, above, other) in
        ap (λ (s : ShownUid). s.line) (sym a.2 ∙ (ap (λ k. get_or certain k x) one ∙ (get_or_default certain b.0 x y b.1 ∙ b.2)))
  ]
]
  where
    uid_at : (z : ShownUid) (c : Contains certain z) → get_or (uids_of certain) c.0 0 ≡ z.uid
    uid_at z c = get_or-map (λ (s : ShownUid). s.uid) certain c.0 z 0 c.1 ∙ ap (λ (s : ShownUid). s.uid) c.2

    apart : (v w : ShownUid) (c : Contains certain v) (d : Contains certain w) → c.0 < d.0 → v.uid ≡ w.uid → ⊥
    apart v w c d below same =
        let long = length-map certain (λ (s : ShownUid). s.uid) in
        let rises = AllPairs-from_increasing (uids_of certain) up c.0 d.0 0 below (omega (arith, long, d.1)) in
        let first = uid_at v c in
        let second = uid_at w d in
        omega (arith, rises, first, second, same)

same_shown : (f : SurveyedField) → IsFieldInRange f → (x y : ShownUid) → x.uid ≡ y.uid → IsShownBy f x → IsShownBy f y → x.line ≡ y.line
same_shown (Possible s) valid x y same a b = same_line s.certain valid.certain.rising x y same a b
same_shown (Refused n fault) valid x y same a b = absurd a
same_shown (Impossible n) valid x y same a b = absurd a

same_told : (c d : CollectionValue) → c.surveys ≡ d.surveys → AreSurveys c.surveys → (x y : UnlistedUid) → x.uid ≡ y.uid → IsShownFirst c x → IsShownFirst d y → x ≡ y
same_told c d surveys valid x y same a b =
    let logs : certain_logs c x.uid ≡ certain_logs d y.uid = ap (λ (ss : List SurveyValue). positions_from (λ s. is_certain_in s x.uid) 0 ss) surveys ∙ ap (certain_logs d) same in
    let both : Some x.log ≡ Some y.log = sym a.first ∙ (ap (λ (us : List ℕ). slice_get us 0) logs ∙ b.first) in
    let log : x.log ≡ y.log = cc in
    let at = position_at (λ s. is_certain_in s x.uid) 0 c.surveys 0 x.log a.first in
    let e : x.log ≡ at.0 = omega (arith, at.1) in
    let s = at.2.0 in
    let here : slice_get c.surveys x.log ≡ Some s = ap (slice_get c.surveys) e ∙ at.2.1 in
    let there : slice_get d.surveys y.log ≡ Some s = ap (slice_get d.surveys) (sym log) ∙ (ap (λ (ss : List SurveyValue). slice_get ss x.log) (sym surveys) ∙ here) in
    let is_field = subst (λ (t : SurveyValue). IsFieldInRange t.field) (get_or_from_slice_get c.surveys x.log s s here) (valid x.log s (slice_get_within c.surveys x.log s here)).field in
    let line : x.line ≡ y.line = same_shown s.field is_field (record { uid = x.uid; line = x.line }) (record { uid = y.uid; line = y.line }) same (a.shown s here) (b.shown s there) in
    λ i. record { uid = same i; log = log i; line = line i }

pub unlisted_by_lists : (c d : CollectionValue) (expected others : List ℕ) (f g : Findings) → c.surveys ≡ d.surveys → AreSurveys c.surveys → IsListCatalogue c.catalogue expected → IsListCatalogue d.catalogue others → IsPermutation expected others → AreFindings c f → AreFindings d g → f.unlisted.items ≡ g.unlisted.items
unlisted_by_lists c d expected others f g surveys valid is other order a b = each f.unlisted.items g.unlisted.items (agree_by_lists c d expected others surveys is other order f g a b).unlisted a.unlisted.shown b.unlisted.shown where
  each : (xs ys : List UnlistedUid) → map (λ (x : UnlistedUid). x.uid) xs ≡ map (λ (y : UnlistedUid). y.uid) ys → All (IsShownFirst c) xs → All (IsShownFirst d) ys → xs ≡ ys
  each [] [] e p q = refl
  each [] (y ∷ ys) e p q = absurd cc
  each (x ∷ xs) [] e p q = absurd cc
  each (x ∷ xs) (y ∷ ys) e p q =
      let first : x.uid ≡ y.uid = cc in
      let rest : map (λ (z : UnlistedUid). z.uid) xs ≡ map (λ (z : UnlistedUid). z.uid) ys = cc in
      let one = same_told c d surveys valid x y first (All-head (IsShownFirst c) x xs p) (All-head (IsShownFirst d) y ys q) in
      ap (λ z. z ∷ xs) one ∙ ap (λ zs. y ∷ zs) (each xs ys rest (All-tail (IsShownFirst c) x xs p) (All-tail (IsShownFirst d) y ys q))

-- ---- what is left to ask for

pub open_masks_by_surveys : (c d : CollectionValue) (s : SurveyValue) (o : OpenMasks) → c.surveys ≡ d.surveys → AreOpenMasksOfSurvey c s o → AreOpenMasksOfSurvey d s o
open_masks_by_surveys c d s o surveys masks = record {
  set = masks.set;
  uids = λ u is. masks.uids u is ∙ ap (λ (ss : List SurveyValue). is_possible_in s u && not (list_any (λ t. is_certain_in t u) ss)) surveys;
  first = masks.first;
  more = masks.more;
}
