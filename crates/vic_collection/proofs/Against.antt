-- The findings of a collection, over all families of populations that may have been in the fields.
use Rattle.vic_collection.proofs.Words.{◌≡◌, ◌+◌, ℕ, List, [], ◌∷◌, Bool, true, false, ◌||◌, ◌&&◌, not, cond, Some, None, Option, is_some, refl, sym, ap, subst, ◌∙◌, ⊎_elim, ◌↔◌, All, AllZip, MatchOption, slice_get, get_or, length, both_ways, false≢true, false_from_ne_true, true_from_ne_false, IsUid, Any-from_list_any, list_any-from_Any, slice_get-get_or, slice_get_read, SurveyValue, HasPossibleLog, IsSurveyOf, IsCertainIn, IsCertainUid, IsPossibleIn, IsPossibleUid}
use Rattle.std.specs.List.{position_from}
use Rattle.std.proofs.lemmas.Bool.{and_from, and_parts, not-true}
use Rattle.std.proofs.lemmas.Iterator.Adapters.{position_from-zero}
use Rattle.vic_frame.specs.Masks.{BitMask}
use Rattle.vic_tree.specs.declared.open_masks.OpenMasks.{OpenMasks}
use Rattle.vic_verdict.specs.Rising.{IsListOf}
use Rattle.vic_verdict.specs.Verdict.{IsFirstMask, IsLeast, NoSuch}
use Rattle.vic_verdict.proofs.Failing.{first_is_least, list_as}
use Rattle.vic_report.specs.Findings.{ShowsCertain}
use Rattle.vic_report.specs.declared.shown.ShownUid.{ShownUid}
use Rattle.vic_survey.specs.Making.{IsFieldOf}
use Rattle.vic_survey.specs.declared.survey.SurveyedField.{SurveyedField}
use Rattle.vic_survey.specs.declared.survey.SurveyedField.TheVariants.{Refused, Impossible, Possible}
use Rattle.vic_table.specs.Values.{ItemValue}
use Rattle.vic_collection.specs.declared.findings.Findings.{Findings}
use Rattle.vic_collection.specs.declared.state.State.TheVariants.{Doubtful, Absent}
use Rattle.vic_collection.specs.declared.unlisted.UnlistedUid.{UnlistedUid}
use Rattle.vic_collection.specs.Against.{AreFindingsAgainst, HaveUids, IsAbsent, IsDoubtful, IsFirstLogWith, IsFirstTold, IsLogWith, IsShownIn, IsUndecided, IsUndecidedIn, IsUnlisted}
use Rattle.vic_collection.specs.Against as against
use Rattle.vic_collection.specs.Collections.{CollectionValue, is_certain_in, is_certain_somewhere, is_not_possible, is_number, is_of_item, is_possible_in, is_possible_somewhere, is_undecided_in, is_unlisted, positions_from, undecided_logs, tells_nothing}
use Rattle.vic_collection.specs.Findings.{AreFindings, AreOpenMasksOfSurvey, IsShownBy, IsShownFirst, IsUidIn, IsUnsettled, is_left_open}
use Rattle.vic_collection.specs.States.{is_certain_at, is_looked_for, is_place_without_log, state_by}
use Rattle.vic_collection.proofs.Families.{any_at, beside, certain_in_some, possible_in_some}
use Rattle.vic_collection.proofs.Items.{certain_at_somewhere, item_with, missing_from, missing_to, number_of, unproved_from, unproved_to}
use Rattle.vic_collection.proofs.Surveys.{certain_in, certain_somewhere, is_uid_of, its_log, no_log, positions_of, possible_in, possible_somewhere, undecided_in}
use Rattle.vic_collection.proofs.Telling.{possible_where_certain}
use Rattle.vic_collection.proofs.Texts.{possible_or_not}

-- ---- first ones

first_position_is : {X : Type 0} (test : X → Bool) (k : ℕ) (xs : List X) → position_from test k xs ≡ slice_get (positions_from test k xs) 0
first_position_is test k [] = refl
first_position_is test k (x ∷ xs) = go (test x) (first_position_is test (k + 1) xs) where
  go : (b : Bool) → position_from test (k + 1) xs ≡ slice_get (positions_from test (k + 1) xs) 0 → cond b (Some k) (position_from test (k + 1) xs) ≡ slice_get (cond b (k ∷ positions_from test (k + 1) xs) (positions_from test (k + 1) xs)) 0
  go true rest = refl
  go false rest = rest

first_at : (P : ℕ → Type 0) (us : List ℕ) (n : ℕ) → IsListOf P us → slice_get us 0 ≡ Some n → IsLeast P n
first_at P us n l at = subst (λ o. MatchOption o (NoSuch P) (IsLeast P)) at (first_is_least P us l)

pub mask_as : (P Q : BitMask → Type 0) (o : Option BitMask) → ((m : BitMask) → P m ↔ Q m) → MatchOption o (NoSuch P) (IsFirstMask P) → MatchOption o (NoSuch Q) (IsFirstMask Q)
mask_as P Q None same none = λ m q. none m ((same m).1 q)
mask_as P Q (Some m) same first = ((same m).0 first.0, λ k q. first.1 k ((same k).1 q))

-- ---- of the collection

module _ (c : CollectionValue) (texts : List (List ℕ)) (says : AllZip IsSurveyOf texts c.surveys) where
  pub certain : (u : ℕ) → (is_certain_somewhere c u ≡ true) ↔ IsCertainUid texts u
  certain u = certain_somewhere texts c.surveys says u

  pub possible : (u : ℕ) → IsUid u → (is_possible_somewhere c u ≡ true) ↔ IsPossibleUid texts u
  possible u is = possible_somewhere texts c.surveys says u is

  sure : (u : ℕ) → is_certain_somewhere c u ≡ true → is_possible_somewhere c u ≡ true
  sure u h = possible_where_certain c.surveys u h

  -- the UID may be somewhere and may be nowhere
  undecided : (u : ℕ) → IsUid u → ((is_possible_somewhere c u ≡ true) × (is_certain_somewhere c u ≡ false)) ↔ IsUndecided texts u
  undecided u is = (
    (λ h. ((possible u is).0 h.0, λ k. both_ways (is_certain_somewhere c u) h.1 ((certain u).1 k))),
    (λ h. ((possible u is).1 h.0, false_from_ne_true (is_certain_somewhere c u) (λ k. h.1 ((certain u).0 k)))),
  )

  nowhere : (u : ℕ) → is_possible_somewhere c u ≡ false → IsPossibleUid texts u → ⊥
  nowhere u e p = both_ways (is_possible_somewhere c u) e ((possible u (is_uid_of texts u p)).1 p)

  abbrev looked : ℕ → ItemValue → Bool
  looked u item = is_number u item.uid && (not item.away && not (is_place_without_log c item.place))

  pub absent_as : HaveUids c → (u : ℕ) → IsUidIn c Absent u ↔ IsAbsent (is_looked_for c) texts u
  absent_as uids u = (
    (λ w.
        let item = w.0 in
        let m = missing_from item.away (is_certain_somewhere c u) (is_certain_at c item.place u) (is_some item.place) (is_possible_somewhere c u) (is_place_without_log c item.place) (sym (ap (state_by c item) w.2) ∙ w.3) in (
          list_any-from_Any (looked u) c.catalogue.items (w.1.0, item, w.1.1, w.1.2, and_from (is_number u item.uid) _ (number_of u item.uid w.2) (and_from _ _ (ap not m.1) (ap not m.2))),
          nowhere u m.0,
        )),
    (λ h.
        let a = Any-from_list_any (looked u) c.catalogue.items h.0 in
        let item = a.1 in
        let both = and_parts (is_number u item.uid) _ a.4 in
        let stands = and_parts (not item.away) _ both.1 in
        let uid = item_with u item.uid both.0 in
        let is = uids u (list_any-from_Any (λ i. is_number u i.uid) c.catalogue.items (a.0, item, a.2, a.3, both.0)) in
        let none = false_from_ne_true (is_possible_somewhere c u) (λ p. h.1 ((possible u is).0 p)) in
        let never = false_from_ne_true (is_certain_somewhere c u) (λ k. both_ways (is_possible_somewhere c u) none (sure u k)) in
        (item, (a.0, a.2, a.3), uid, ap (state_by c item) uid ∙ missing_to item.away (is_certain_somewhere c u) (is_certain_at c item.place u) (is_some item.place) (is_possible_somewhere c u) (is_place_without_log c item.place) (certain_at_somewhere c item.place u) never none (not-true item.away stands.0) (not-true (is_place_without_log c item.place) stands.1))),
  )

  pub doubtful_as : HaveUids c → (u : ℕ) → IsUidIn c Doubtful u ↔ IsDoubtful (is_of_item c) texts u
  doubtful_as uids u = (
    (λ w.
        let item = w.0 in
        let m = unproved_from item.away (is_certain_somewhere c u) (is_certain_at c item.place u) (is_some item.place) (is_possible_somewhere c u) (is_place_without_log c item.place) (sym (ap (state_by c item) w.2) ∙ w.3) in
        let of = list_any-from_Any (λ i. is_number u i.uid) c.catalogue.items (w.1.0, item, w.1.1, w.1.2, number_of u item.uid w.2) in
        (of, (undecided u (uids u of)).0 (m.1, m.0))),
    (λ h.
        let a = Any-from_list_any (λ i. is_number u i.uid) c.catalogue.items h.0 in
        let item = a.1 in
        let uid = item_with u item.uid a.4 in
        let m = (undecided u (uids u h.0)).1 h.1 in
        (item, (a.0, a.2, a.3), uid, ap (state_by c item) uid ∙ unproved_to item.away (is_certain_somewhere c u) (is_certain_at c item.place u) (is_some item.place) (is_possible_somewhere c u) (is_place_without_log c item.place) (certain_at_somewhere c item.place u) m.1 m.0)),
  )

  pub unlisted_as : (u : ℕ) → (is_unlisted c u ≡ true) ↔ IsUnlisted (is_of_item c) texts u
  unlisted_as u = (
    (λ h. let w = and_parts (is_certain_somewhere c u) _ h in ((certain u).0 w.0, not-true (is_of_item c u) w.1)),
    (λ h. and_from (is_certain_somewhere c u) _ ((certain u).1 h.0) (ap not h.1)),
  )

  left_as : (u : ℕ) → IsUid u → (is_left_open c u ≡ true) ↔ (IsUndecided texts u × (is_of_item c u ≡ false))
  left_as u is = go (is_possible_somewhere c u) (is_certain_somewhere c u) (is_of_item c u) (undecided u is) where
    go : (p s o : Bool) → ((p ≡ true) × (s ≡ false)) ↔ IsUndecided texts u → ((p && not (s || o)) ≡ true) ↔ (IsUndecided texts u × (o ≡ false))
    go true false false same = ((λ h. (same.0 (refl, refl), refl)), (λ h. refl))
    go true false true same = ((λ h. absurd (false≢true h)), (λ h. absurd (false≢true (sym h.1))))
    go true true o same = ((λ h. absurd (false≢true h)), (λ h. absurd (false≢true (sym (same.1 h.0).1))))
    go false s o same = ((λ h. absurd (false≢true h)), (λ h. absurd (false≢true (same.1 h.0).0)))

  pub unsettled_as : (m : BitMask) → IsUnsettled c m ↔ against.IsUnsettledAgainst (is_of_item c) texts m
  unsettled_as m = (
    (λ h. (h.0, h.1, λ u is lies. (left_as u is).0 (h.2 u is lies))),
    (λ h. (h.0, h.1, λ u is lies. (left_as u is).1 (h.2 u is lies))),
  )

  -- ---- the logs that they name

  pub first_silent : MatchOption (position_from tells_nothing 0 c.surveys) (All HasPossibleLog texts) (IsFirstLogWith (λ text. HasPossibleLog text → ⊥) texts)
  first_silent =
      let P : List ℕ → Type 0 = λ text. HasPossibleLog text → ⊥ in
      let logs = positions_of texts c.surveys says tells_nothing P (λ text s w. silent text s.field w) in
      subst (λ o. MatchOption o (All HasPossibleLog texts) (IsFirstLogWith P texts)) (sym (first_position_is tells_nothing 0 c.surveys))
      (go (slice_get (positions_from tells_nothing 0 c.surveys) 0) (first_is_least (IsLogWith P texts) (positions_from tells_nothing 0 c.surveys) logs)) where
        silent : (text : List ℕ) (f : SurveyedField) → IsFieldOf text f → (is_not_possible f ≡ true) ↔ (HasPossibleLog text → ⊥)
        silent text f w = (no_log text f w, λ never. true_from_ne_false (is_not_possible f) (λ tells. never (its_log text f w tells)))

        go : (o : Option ℕ) → MatchOption o (NoSuch (IsLogWith (λ text. HasPossibleLog text → ⊥) texts)) (IsLeast (IsLogWith (λ text. HasPossibleLog text → ⊥) texts)) → MatchOption o (All HasPossibleLog texts) (IsFirstLogWith (λ text. HasPossibleLog text → ⊥) texts)
        go None none = λ k d lt. ⊎_elim (λ h. h) (λ never. absurd (none k (get_or texts k d, slice_get-get_or texts k d lt, never))) (possible_or_not (get_or texts k d))
        go (Some n) first = first

  shown_in : (text : List ℕ) (f : SurveyedField) (shown : ShownUid) → IsFieldOf text f → IsShownBy f shown → IsShownIn shown.uid shown.line text
  shown_in text (Possible s) shown w among =
      (w.0, w.1, subst (λ (x : ShownUid). ShowsCertain w.0.lines x.line x.uid) among.2 (w.2.shown among.0 shown among.1))
  shown_in text (Refused n fault) shown w among = absurd among
  shown_in text (Impossible n) shown w among = absurd among

  told_first : (x : UnlistedUid) → IsShownFirst c x → IsFirstTold texts x
  told_first x w =
      let logs = positions_of texts c.surveys says (λ s. is_certain_in s x.uid) (IsCertainIn x.uid) (λ text s v. certain_in text s.field v x.uid) in
      let first = first_at (IsLogWith (IsCertainIn x.uid) texts) (positions_from (λ s. is_certain_in s x.uid) 0 c.surveys) x.log logs w.first in
      let text = first.0.0 in
      let b = beside IsSurveyOf texts c.surveys x.log text says first.0.1 in
      record {
        first = first;
        shown = (text, first.0.1, shown_in text b.0.field (record { uid = x.uid; line = x.line }) b.2 (w.shown b.0 b.1));
      }

  pub doubtful_first : (u : ℕ) → IsUndecided texts u → MatchOption (slice_get (undecided_logs c u) 0) ⊥ (IsFirstLogWith (IsPossibleIn u) texts)
  doubtful_first u w = go (slice_get logs 0) (first_is_least (IsLogWith (IsPossibleIn u) texts) logs (list_as (IsLogWith (IsUndecidedIn u) texts) (IsLogWith (IsPossibleIn u) texts) logs (λ k. (
    (λ h. (h.0, h.1, h.2.0)),
    (λ h. (h.0, h.1, (h.2, λ here. w.1 ((certain_in_some texts u).1 (any_at (IsCertainIn u) texts k h.0 h.1 here))))),
  )) (positions_of texts c.surveys says (λ s. is_undecided_in s u) (IsUndecidedIn u) (λ text s v. undecided_in text s v u (is_uid_of texts u w.0)))))
    where
      logs : List ℕ
      logs = undecided_logs c u

      go : (o : Option ℕ) → MatchOption o (NoSuch (IsLogWith (IsPossibleIn u) texts)) (IsLeast (IsLogWith (IsPossibleIn u) texts)) → MatchOption o ⊥ (IsFirstLogWith (IsPossibleIn u) texts)
      go None none =
          let a = (possible_in_some texts u).0 w.0 in
          none a.0 (a.1, slice_get_read texts (length texts) a.0 a.1 refl a.2 (sym a.3), a.4)
      go (Some n) first = first

  -- ---- all of them

  pub against_logs : HaveUids c → (f : Findings) → AreFindings c f → AreFindingsAgainst (is_looked_for c) (is_of_item c) texts f
  against_logs uids f a = record {
    not_possible = subst (λ o. MatchOption o (All HasPossibleLog texts) (IsFirstLogWith (λ text. HasPossibleLog text → ⊥) texts)) (sym (a.not_possible ∙ position_from-zero tells_nothing c.surveys)) first_silent;
    absent = list_as _ _ _ (absent_as uids) a.absent.uids;
    unlisted = list_as _ _ _ unlisted_as a.unlisted.uids;
    unlisted_told = λ k d lt. told_first (get_or f.unlisted.items k d) (a.unlisted.shown k d lt);
    unsettled = mask_as (IsUnsettled c) (against.IsUnsettledAgainst (is_of_item c) texts) f.unsettled unsettled_as a.unsettled;
    doubtful = list_as _ _ _ (doubtful_as uids) a.doubtful.uids;
  }

  pub open_masks_of : (text : List ℕ) (s : SurveyValue) (o : OpenMasks) → IsSurveyOf text s → AreOpenMasksOfSurvey c s o → against.AreOpenMasksOfLog texts text o
  open_masks_of text s o w masks = record {
    set = masks.set;
    uids = λ u is. subst (λ (b : Bool). (b ≡ true) ↔ (IsPossibleIn u text × (IsCertainUid texts u → ⊥))) (sym (masks.uids u is)) (go u (is_possible_in s u) (is_certain_somewhere c u) (possible_in text s.field w u is) (certain u));
    first = masks.first;
    more = masks.more;
  }
    where
      go : (u : ℕ) (p k : Bool) → (p ≡ true) ↔ IsPossibleIn u text → (k ≡ true) ↔ IsCertainUid texts u → ((p && not k) ≡ true) ↔ (IsPossibleIn u text × (IsCertainUid texts u → ⊥))
      go u true true may must = ((λ h. absurd (false≢true h)), (λ h. absurd (h.1 (must.0 refl))))
      go u true false may must = ((λ h. (may.0 refl, λ k. false≢true (must.1 k))), (λ h. refl))
      go u false k may must = ((λ h. absurd (false≢true h)), (λ h. may.1 h.0))
