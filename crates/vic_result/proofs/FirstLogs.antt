-- The first log that leaves a UID open, by the halves of the logs.
use Rattle.vic_result.proofs.Words.{◌≡◌, ◌∙◌, ◌&&◌, ◌||◌, ◌<◌, ◌+◌, ◌++◌, ◌∷◌, [], ℕ, suc, Bool, true, false, not, List, Option, Some, ap, arith, cond, filter, length, list_any, map, nat_eq, refl, sym, zero}
use Rattle.std.proofs.lemmas.Bool.Decides.{nat_tests}
use Rattle.std.proofs.lemmas.List.Folds.{list_any-append}
use Rattle.std.specs.BTreeMap.{BTreeMap, get, is_at}
use Rattle.std.specs.Option.{option_map_or}
use Rattle.std.proofs.Common.{is_some}
use Rattle.std.specs.Ordering.{nat_cmp}
use Rattle.vic_frame.specs.Uids.{has}
use Rattle.vic_survey.specs.Surveys.{SurveyValue}
use Rattle.vic_survey.specs.declared.survey.SurveyedField.{SurveyedField}
use Rattle.vic_survey.specs.declared.survey.SurveyedField.TheVariants.{Refused, Impossible, Possible}
use Rattle.vic_table.specs.Values.{ItemValue}
use Rattle.vic_collection.specs.Collections.{CollectionValue, is_certain_by, is_certain_in, is_certain_somewhere, is_possible_by, is_possible_in, is_possible_somewhere}
use Rattle.vic_collection.specs.States.{is_certain_at, is_place_without_log, state_by, state_of}
use Rattle.vic_collection.specs.declared.state.State.{State}
use Rattle.vic_collection.specs.declared.state.State.TheVariants.{Returned, InPlace, Misplaced, There, Doubtful, Away, NotCounted, Absent}
use Rattle.vic_result.specs.NamesAt.{name_at}
use Rattle.vic_result.specs.ResultLines.{first_name, first_possible}
use Rattle.vic_result.specs.ResultTable.{names_where}
use Rattle.vic_result.specs.inner.FirstLogs.{first_open, is_open_somewhere, leaves_open, leaves_open_by, name_in}

-- ---- the halves

first_in_front : (u : ℕ) (front back : List SurveyValue) → is_open_somewhere front u ≡ true → first_open (front ++ back) u ≡ first_open front u
first_in_front u [] back some = absurd cc
first_in_front u (s ∷ front) back some = go (leaves_open s u) some (first_in_front u front back) where
  go : (b : Bool) → (b || is_open_somewhere front u) ≡ true → (is_open_somewhere front u ≡ true → first_open (front ++ back) u ≡ first_open front u) → cond b 0 (suc (first_open (front ++ back) u)) ≡ cond b 0 (suc (first_open front u))
  go true e rest = refl
  go false e rest = ap suc (rest e)

first_behind : (u : ℕ) (front back : List SurveyValue) → is_open_somewhere front u ≡ false → first_open (front ++ back) u ≡ length front + first_open back u
first_behind u [] back none = omega arith
first_behind u (s ∷ front) back none = go (leaves_open s u) none (first_behind u front back) where
  go : (b : Bool) → (b || is_open_somewhere front u) ≡ false → (is_open_somewhere front u ≡ false → first_open (front ++ back) u ≡ length front + first_open back u) → cond b 0 (suc (first_open (front ++ back) u)) ≡ length (s ∷ front) + first_open back u
  go true e rest = absurd cc
  go false e rest = omega (arith, rest e)

-- the only log
only_log : (u : ℕ) (surveys : List SurveyValue) → length surveys < 2 → is_open_somewhere surveys u ≡ true → first_open surveys u ≡ 0
only_log u [] few some = refl
only_log u (s ∷ []) few some = go (leaves_open s u) some where
  go : (b : Bool) → (b || false) ≡ true → cond b zero (suc zero) ≡ zero
  go true e = refl
  go false e = absurd cc
only_log u (s ∷ t ∷ surveys) few some = absurd (omega (arith, few))

pub noted_alone : (u from : ℕ) (surveys : List SurveyValue) (us : List ℕ) (old : Option ℕ) → length surveys < 2 → (has us u ≡ true → is_open_somewhere surveys u ≡ true) → cond (has us u) (Some from) old ≡ cond (has us u) (Some (from + first_open surveys u)) old
noted_alone u from surveys us old few left = go (has us u) left where
  go : (d : Bool) → (d ≡ true → is_open_somewhere surveys u ≡ true) → cond d (Some from) old ≡ cond d (Some (from + first_open surveys u)) old
  go true some = let sum : from ≡ from + first_open surveys u = omega (arith, only_log u surveys few (some refl)) in ap Some sum
  go false some = refl

-- what is noted of both halves, where those of the UIDs that the first leaves open are looked for in it
pub noted_both : (u from : ℕ) (front back : List SurveyValue) (us here later : List ℕ) (p : Bool) (old mid new : Option ℕ) → p ≡ is_open_somewhere front u → has here u ≡ (has us u && p) → has later u ≡ (has us u && not p)
    → mid ≡ cond (has here u) (Some (from + first_open front u)) old → new ≡ cond (has later u) (Some ((from + length front) + first_open back u)) mid → new ≡ cond (has us u) (Some (from + first_open (front ++ back) u)) old
noted_both u from front back us here later p old mid new same inside outside one other = other ∙ rw (outside, one, inside) (go (has us u) p same) where
  go : (d q : Bool) → q ≡ is_open_somewhere front u → cond (d && not q) (Some ((from + length front) + first_open back u)) (cond (d && q) (Some (from + first_open front u)) old) ≡ cond d (Some (from + first_open (front ++ back) u)) old
  go true true e = ap (λ n. Some (from + n)) (sym (first_in_front u front back (sym e)))
  go true false e = let sum : (from + length front) + first_open back u ≡ from + first_open (front ++ back) u = omega (arith, first_behind u front back (sym e)) in ap Some sum
  go false q e = refl

-- each half leaves those open that are looked for in it
pub left_in_front : (u : ℕ) (front : List SurveyValue) (us here : List ℕ) (p : Bool) → p ≡ is_open_somewhere front u → has here u ≡ (has us u && p) → has here u ≡ true → is_open_somewhere front u ≡ true
left_in_front u front us here p same inside h = sym same ∙ go (has us u) p (sym inside ∙ h) where
  go : (d q : Bool) → (d && q) ≡ true → q ≡ true
  go true q e = e
  go false q e = absurd cc

pub left_behind : (u : ℕ) (front back : List SurveyValue) (us later : List ℕ) (p : Bool) → p ≡ is_open_somewhere front u → has later u ≡ (has us u && not p) → (has us u ≡ true → is_open_somewhere (front ++ back) u ≡ true)
    → has later u ≡ true → is_open_somewhere back u ≡ true
left_behind u front back us later p same outside left h = go (has us u) p same (sym outside ∙ h) left where
  go : (d q : Bool) → q ≡ is_open_somewhere front u → (d && not q) ≡ true → (d ≡ true → is_open_somewhere (front ++ back) u ≡ true) → is_open_somewhere back u ≡ true
  go true true same e some = absurd cc
  go true false same e some = ap (λ (b : Bool). b || is_open_somewhere back u) same ∙ (sym (list_any-append (λ s. leaves_open s u) front back) ∙ some refl)
  go false q same e some = absurd cc

-- ---- one log for several UIDs

at_same : (a b : ℕ) → is_at (nat_cmp a) b ≡ nat_eq b a
at_same a b = grind (arith, nat_tests)

pub noted_more : (log x : ℕ) (us : List ℕ) (u : ℕ) (old now new : Option ℕ) → new ≡ cond (is_at (nat_cmp x) u) (Some log) now → now ≡ cond (has us u) (Some log) old → new ≡ cond (has (us ++ x ∷ []) u) (Some log) old
noted_more log x us u old now new put before = put ∙ rw (at_same x u, list_any-append (nat_eq u) us (x ∷ [])) (go (nat_eq u x) (has us u) before) where
  go : (b d : Bool) → now ≡ cond d (Some log) old → cond b (Some log) now ≡ cond (d || (b || false)) (Some log) old
  go true true e = refl
  go true false e = refl
  go false true e = e
  go false false e = e

-- ---- items that aren't provable

possible_by : (f : SurveyedField) (u : ℕ) → is_possible_by f u ≡ (is_certain_by f u || leaves_open_by f u)
possible_by (Possible s) u = refl
possible_by (Refused n fault) u = refl
possible_by (Impossible n) u = refl

-- where a UID is certain in no log, it may be where it is left open
first_named : (u : ℕ) (surveys : List SurveyValue) → list_any (λ s. is_certain_in s u) surveys ≡ false → name_at surveys (first_open surveys u) ≡ first_name (names_where (λ s. is_possible_in s u) surveys)
first_named u [] none = refl
first_named u (s ∷ surveys) none = rw (possible_by s.field u) (go (is_certain_in s u) (leaves_open s u) none (first_named u surveys)) where
  go : (k b : Bool) → (k || list_any (λ t. is_certain_in t u) surveys) ≡ false → (list_any (λ t. is_certain_in t u) surveys ≡ false → name_at surveys (first_open surveys u) ≡ first_name (names_where (λ t. is_possible_in t u) surveys))
      → name_at (s ∷ surveys) (cond b 0 (suc (first_open surveys u))) ≡ first_name (map (λ t. t.name) (cond (k || b) (s ∷ filter (λ t. is_possible_in t u) surveys) (filter (λ t. is_possible_in t u) surveys)))
  go true b e rest = absurd cc
  go false true e rest = refl
  go false false e rest = rest e

open_somewhere : (u : ℕ) (surveys : List SurveyValue) → list_any (λ s. is_certain_in s u) surveys ≡ false → is_open_somewhere surveys u ≡ list_any (λ s. is_possible_in s u) surveys
open_somewhere u [] none = refl
open_somewhere u (s ∷ surveys) none = rw (possible_by s.field u) (go (is_certain_in s u) none (open_somewhere u surveys)) where
  go : (k : Bool) → (k || list_any (λ t. is_certain_in t u) surveys) ≡ false → (list_any (λ t. is_certain_in t u) surveys ≡ false → is_open_somewhere surveys u ≡ list_any (λ t. is_possible_in t u) surveys)
      → (leaves_open s u || is_open_somewhere surveys u) ≡ ((k || leaves_open s u) || list_any (λ t. is_possible_in t u) surveys)
  go true e rest = absurd cc
  go false e rest = ap (λ (b : Bool). leaves_open s u || b) (rest e)

-- it is certain nowhere, and may be somewhere
nowhere_certain : (c : CollectionValue) (item : ItemValue) (u : ℕ) → item.uid ≡ Some u → state_of c item ≡ Doubtful → (is_certain_somewhere c u ≡ false) × (is_possible_somewhere c u ≡ true)
nowhere_certain c item u uid is =
    let w = certain item.away (is_certain_somewhere c u) (is_certain_at c item.place u) (is_some item.place) (cond (is_possible_somewhere c u) Doubtful (cond item.away Away (cond (is_place_without_log c item.place) NotCounted Absent))) (ap (state_by c item) (sym uid) ∙ is) in
    (w.0, possible (is_possible_somewhere c u) item.away (is_place_without_log c item.place) w.1) where
      certain : (away k at placed : Bool) (rest : State) → cond (away && k) Returned (cond at InPlace (cond (placed && k) Misplaced (cond k There rest))) ≡ Doubtful → (k ≡ false) × (rest ≡ Doubtful)
      certain true true at placed rest e = absurd cc
      certain false true true placed rest e = absurd cc
      certain false true false true rest e = absurd cc
      certain false true false false rest e = absurd cc
      certain true false true placed rest e = absurd cc
      certain false false true placed rest e = absurd cc
      certain true false false true rest e = (refl, e)
      certain true false false false rest e = (refl, e)
      certain false false false true rest e = (refl, e)
      certain false false false false rest e = (refl, e)

      possible : (p away place_without_log : Bool) → cond p Doubtful (cond away Away (cond place_without_log NotCounted Absent)) ≡ Doubtful → p ≡ true
      possible true away place_without_log e = refl
      possible false true place_without_log e = absurd cc
      possible false false true e = absurd cc
      possible false false false e = absurd cc

pub doubtful_left : (c : CollectionValue) (item : ItemValue) (u : ℕ) → item.uid ≡ Some u → state_of c item ≡ Doubtful → is_open_somewhere c.surveys u ≡ true
doubtful_left c item u uid is = let w = nowhere_certain c item u uid is in open_somewhere u c.surveys w.0 ∙ w.1

pub doubtful_first : (c : CollectionValue) (item : ItemValue) (u : ℕ) (logs : BTreeMap ℕ ℕ) → item.uid ≡ Some u → state_of c item ≡ Doubtful → get nat_cmp logs u ≡ Some (0 + first_open c.surveys u) → name_in c.surveys logs u ≡ first_possible c u
doubtful_first c item u logs uid is noted =
    let same : 0 + first_open c.surveys u ≡ first_open c.surveys u = omega arith in
    ap (λ o. option_map_or (name_at c.surveys) o []) noted ∙ (ap (name_at c.surveys) same ∙ first_named u c.surveys (nowhere_certain c item u uid is).0)
