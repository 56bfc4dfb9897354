-- The first mask that is unsettled, by a set of possible UIDs.
use Rattle.vic_collection.proofs.Words.{◌≡◌, ℕ, List, Bool, true, false, not, ◌&&◌, ◌||◌, Option, None, Some, refl, sym, ap, ◌∙◌, arith, has, both_ways, false≢true, slice_get, slice_get_within, get_or_from_slice_get, list_any_at}
use Rattle.std.proofs.Common.{MatchOption}
use Rattle.vic_frame.specs.Masks.{BitMask}
use Rattle.vic_frame.specs.Uids.{IsUid}
use Rattle.vic_survey.specs.Surveys.{SurveyValue}
use Rattle.vic_tree.specs.Keys.{AreKeysOf}
use Rattle.vic_tree.specs.OpenSet.{IsWidest, SameUids, without_keys}
use Rattle.vic_verdict.specs.Differences.{left_by}
use Rattle.vic_verdict.specs.Verdict.{IsFirstMask, NoSuch}
use Rattle.vic_verdict.proofs.Masks.{IsUid-in, lies_in-uid_in, uid_in}
use Rattle.vic_collection.specs.Collections.{CollectionValue, is_certain_in, is_certain_somewhere, is_of_item, is_possible_in, is_possible_somewhere, is_undecided_in}
use Rattle.vic_collection.specs.Findings.{IsUnsettled, is_left_by, is_left_open}

module _ (c : CollectionValue) (set : ℕ → Bool) (certain us : List ℕ) (all : (u : ℕ) → has certain u ≡ is_certain_somewhere c u) (listed : (u : ℕ) → has us u ≡ is_of_item c u) (open_uids : (u : ℕ) → IsUid u → is_certain_somewhere c u ≡ false → set u ≡ is_possible_somewhere c u) where
  left_open : (u : ℕ) → IsUid u → left_by set certain us u ≡ is_left_open c u
  left_open u is = rw (all u, listed u) (go (is_certain_somewhere c u) refl) where
    and_no : (b : Bool) → (b && false) ≡ false
    and_no true = refl
    and_no false = refl

    go : (b : Bool) → is_certain_somewhere c u ≡ b → (set u && not (b || is_of_item c u)) ≡ (is_possible_somewhere c u && not (b || is_of_item c u))
    go true e = and_no (set u) ∙ sym (and_no (is_possible_somewhere c u))
    go false e = ap (λ (b : Bool). b && not (is_of_item c u)) (open_uids u is e)

  pub first_unsettled : (m : Option BitMask) → MatchOption m (SameUids (left_by set certain us) (λ _. false)) (IsWidest (left_by set certain us)) → MatchOption m (NoSuch (IsUnsettled c)) (IsFirstMask (IsUnsettled c))
  first_unsettled None none = λ m h.
      let is = IsUid-in m h.0 h.1 in
      both_ways (left_by set certain us (uid_in m)) (none (uid_in m) is) (left_open (uid_in m) is ∙ h.2 (uid_in m) is (lies_in-uid_in m h.0 h.1))
  first_unsettled (Some m) w = (
    (w.short, w.is_mask.1, λ u is lies. sym (left_open u is) ∙ w.open_throughout u is lies),
    λ k h. let short = h.0 in let fits = h.1 in w.least k (omega arith, fits) short (λ u is lies. left_open u is ∙ h.2 u is lies),
  )

-- ---- what a log leaves open

pub left_by_one : (c : CollectionValue) (set : ℕ → Bool) (keys certain : List ℕ) → ((u : ℕ) → has certain u ≡ is_certain_somewhere c u) → AreKeysOf keys certain → (i : ℕ) (s : SurveyValue) → slice_get c.surveys i ≡ Some s → SameUids set (is_undecided_in s) → SameUids (without_keys set keys) (is_left_by c s)
left_by_one c set keys certain all named i s at same u is = rw (same u is, named.members u is, all u) (go (is_possible_in s u) (is_certain_in s u) (is_certain_somewhere c u) (λ here. list_any_at (λ t. is_certain_in t u) c.surveys i s (slice_get_within c.surveys i s at) (ap (λ t. is_certain_in t u) (get_or_from_slice_get c.surveys i s s at) ∙ here))) where
  go : (p one all : Bool) → (one ≡ true → all ≡ true) → ((p && not one) && not all) ≡ (p && not all)
  go false one all f = refl
  go true false all f = refl
  go true true true f = refl
  go true true false f = absurd (false≢true (f refl))
