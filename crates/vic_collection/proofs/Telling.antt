-- The logs in which UIDs are certain, with one more.
use Rattle.vic_collection.proofs.Words.{SurveyValue, ◌≡◌, ℕ, ◌+◌, ◌<◌, List, [], ◌∷◌, ◌++◌, Bool, true, false, ◌||◌, cond, Some, refl, sym, ap, ◌∙◌, arith, nat_eq, has, length, take, get_or, slice_get, append-nil, take_more, length-take-le, list_any-append, eqb-true, IsStrictlyIncreasing, AllPairs-from_increasing, place_of, slice_get_within, get_or_from_slice_get, list_any, ◌&&◌, not, suc, ne_eqb}
use Rattle.std.proofs.lemmas.List.{get_or-map, get_or-take, get_or_default, length-map, take-map}
use Rattle.vic_report.specs.Findings.{uids_of}
use Rattle.vic_report.specs.declared.shown.ShownUid.{ShownUid}
use Rattle.vic_survey.specs.declared.survey.SurveyedField.{SurveyedField}
use Rattle.vic_survey.specs.declared.survey.SurveyedField.TheVariants.{Refused, Impossible, Possible}
use Rattle.vic_survey.specs.declared.survey.FieldFacts.{FieldFacts}
use Rattle.vic_collection.specs.Collections.{is_certain_by, is_certain_in, is_not_possible, is_possible_by, is_possible_in, positions_from, tells_nothing}
use Rattle.vic_collection.specs.inner.Told.{IsToldBy, is_open_by}
use Rattle.vic_frame.specs.Uids.{IsUid}
use Rattle.vic_tree.specs.Ranges.{is_open_in}
use Rattle.vic_collection.specs.declared.told.Told.{Told}

-- ---- of rising UIDs

-- a UID of a rising list isn't among those before it
not_before : (us : List ℕ) (i uid : ℕ) → IsStrictlyIncreasing us → i < length us → uid ≡ get_or us i uid → has (take i us) uid ≡ true → ⊥
not_before us i uid up lt is h =
    let p = place_of (take i us) uid 0 h in
    let low : p.0 < i = omega (arith, p.1, length-take-le i us (omega arith)) in
    let there : get_or us p.0 0 ≡ uid = sym (get_or-take i us p.0 0 low) ∙ p.2 in
    let here : get_or us i 0 ≡ uid = get_or_default us i 0 uid lt ∙ sym is in
    let below = AllPairs-from_increasing us up p.0 i 0 low lt in
    absurd (omega (arith, below, here, there))

one_more : (base : List ℕ) (log : ℕ) (before now : Bool) → (before ≡ true → now ≡ true → ⊥) → (base ++ cond before (log ∷ []) []) ++ cond now (log ∷ []) [] ≡ base ++ cond (before || (now || false)) (log ∷ []) []
one_more base log true true once = absurd (once refl refl)
one_more base log true false once = append-nil (base ++ log ∷ [])
one_more base log false true once = ap (λ l. l ++ log ∷ []) (append-nil base)
one_more base log false false once = ap (λ l. l ++ []) (append-nil base)

pub logs_added : (us : List ℕ) (i uid : ℕ) (base : List ℕ) (log u : ℕ) → IsStrictlyIncreasing us → i < length us → uid ≡ get_or us i uid
    → (base ++ cond (has (take i us) u) (log ∷ []) []) ++ cond (nat_eq u uid) (log ∷ []) [] ≡ base ++ cond (has (take (i + 1) us) u) (log ∷ []) []
logs_added us i uid base log u up lt is =
    let once : has (take i us) u ≡ true → nat_eq u uid ≡ true → ⊥ = λ before now. not_before us i uid up lt is (ap (has (take i us)) (sym (eqb-true u uid now)) ∙ before) in
    let both = ap (λ vs. has vs u) (take_more us i uid lt ∙ ap (λ v. take i us ++ v ∷ []) (sym is)) ∙ list_any-append (nat_eq u) (take i us) (uid ∷ []) in
    one_more base log (has (take i us) u) (nat_eq u uid) once ∙ ap (λ (b : Bool). base ++ cond b (log ∷ []) []) (sym both)

-- the same of UIDs with their lines
pub shown_added : (shown : List ShownUid) (i : ℕ) (s : ShownUid) (base : List ℕ) (log u : ℕ) → IsStrictlyIncreasing (uids_of shown) → i < length shown → s ≡ get_or shown i s
    → (base ++ cond (has (uids_of (take i shown)) u) (log ∷ []) []) ++ cond (nat_eq u s.uid) (log ∷ []) [] ≡ base ++ cond (has (uids_of (take (i + 1) shown)) u) (log ∷ []) []
shown_added shown i s base log u up lt is =
    let here : s.uid ≡ get_or (uids_of shown) i s.uid = ap (λ t. t.uid) is ∙ sym (get_or-map (λ (t : ShownUid). t.uid) shown i s s.uid lt) in
    rw (← take-map (λ (t : ShownUid). t.uid) i shown, ← take-map (λ (t : ShownUid). t.uid) (i + 1) shown) (logs_added (uids_of shown) i s.uid base log u up (omega (arith, length-map shown (λ (t : ShownUid). t.uid))) here)

-- ---- of one log more

positions_from-push : {X : Type 0} (test : X → Bool) (k : ℕ) (xs : List X) (x : X) → positions_from test k (xs ++ x ∷ []) ≡ positions_from test k xs ++ cond (test x) ((k + length xs) ∷ []) []
positions_from-push test k [] x = let e : k + 0 ≡ k = omega arith in rw e refl
positions_from-push test k (first ∷ xs) x = let e : k + length (first ∷ xs) ≡ (k + 1) + length xs = omega arith in rw (e, positions_from-push test (k + 1) xs x) (go (test first)) where
  go : (b : Bool) → cond b (k ∷ (positions_from test (k + 1) xs ++ cond (test x) (((k + 1) + length xs) ∷ []) [])) (positions_from test (k + 1) xs ++ cond (test x) (((k + 1) + length xs) ∷ []) [])
      ≡ cond b (k ∷ positions_from test (k + 1) xs) (positions_from test (k + 1) xs) ++ cond (test x) (((k + 1) + length xs) ∷ []) []
  go true = refl
  go false = refl

pub positions_from-more : {X : Type 0} (test : X → Bool) (xs : List X) (i : ℕ) (x : X) → slice_get xs i ≡ Some x → positions_from test 0 (take (i + 1) xs) ≡ positions_from test 0 (take i xs) ++ cond (test x) (i ∷ []) []
positions_from-more test xs i x at =
    let lt : i < length xs = slice_get_within xs i x at in
    let e : 0 + length (take i xs) ≡ i = omega (arith, length-take-le i xs (omega arith)) in
    ap (positions_from test 0) (take_more xs i x lt ∙ ap (λ y. take i xs ++ y ∷ []) (get_or_from_slice_get xs i x x at)) ∙ (positions_from-push test 0 (take i xs) x ∙ rw e refl)

-- a log that isn't possible makes no UID certain
pub nothing_certain : (f : SurveyedField) (u : ℕ) → ((s : FieldFacts) → f ≡ Possible s → ⊥) → is_certain_by f u ≡ false
nothing_certain (Possible s) u never = absurd (never s refl)
nothing_certain (Refused n fault) u never = refl
nothing_certain (Impossible n) u never = refl

-- ---- the positions themselves

-- a test of positions, where it says of each what another says of its element
pub any_position : (test other : SurveyValue → Bool) (at_position : ℕ → Bool) (k : ℕ) (xs : List SurveyValue) → ((i : ℕ) (x : SurveyValue) → slice_get xs i ≡ Some x → at_position (k + i) ≡ other x)
    → list_any at_position (positions_from test k xs) ≡ list_any (λ x. other x && test x) xs
any_position test other at_position k [] same = refl
any_position test other at_position k (x ∷ xs) same =
    let here : at_position k ≡ other x = let e : k + 0 ≡ k = omega arith in ap at_position (sym e) ∙ same 0 x refl in
    let rest = any_position test other at_position (k + 1) xs (λ i y at. let e : (k + 1) + i ≡ k + suc i = omega arith in ap at_position e ∙ same (suc i) y at) in
    go (test x) (other x) here rest where
      go : (t o : Bool) → at_position k ≡ o → list_any at_position (positions_from test (k + 1) xs) ≡ list_any (λ y. other y && test y) xs
          → list_any at_position (cond t (k ∷ positions_from test (k + 1) xs) (positions_from test (k + 1) xs)) ≡ ((o && t) || list_any (λ y. other y && test y) xs)
      go true true here rest = rw here refl
      go true false here rest = rw here rest
      go false true here rest = rest
      go false false here rest = rest

-- there is a position where an element passes
pub some_position : (test : SurveyValue → Bool) (k : ℕ) (xs : List SurveyValue) → not (nat_eq (length (positions_from test k xs)) 0) ≡ list_any test xs
some_position test k [] = refl
some_position test k (x ∷ xs) = go (test x) (some_position test (k + 1) xs) where
  go : (t : Bool) → not (nat_eq (length (positions_from test (k + 1) xs)) 0) ≡ list_any test xs → not (nat_eq (length (cond t (k ∷ positions_from test (k + 1) xs) (positions_from test (k + 1) xs))) 0) ≡ (t || list_any test xs)
  go true rest = ap not (ne_eqb (suc (length (positions_from test (k + 1) xs))) 0 (λ e. omega (arith, e)))
  go false rest = rest

-- ---- what all logs say

possible_by : (f : SurveyedField) (u : ℕ) → is_possible_by f u ≡ (is_certain_by f u || (is_not_possible f || is_open_by f u))
possible_by (Possible s) u = refl
possible_by (Refused n fault) u = refl
possible_by (Impossible n) u = refl

pub possible_parts : (surveys : List SurveyValue) (u : ℕ) → list_any (λ s. is_possible_in s u) surveys ≡ (list_any (λ s. is_certain_in s u) surveys || (list_any tells_nothing surveys || list_any (λ s. is_open_by s.field u) surveys))
possible_parts [] u = refl
possible_parts (s ∷ surveys) u = rw (possible_by s.field u, possible_parts surveys u) (go (is_certain_by s.field u) (tells_nothing s) (is_open_by s.field u) (list_any (λ t. is_certain_in t u) surveys) (list_any tells_nothing surveys) (list_any (λ t. is_open_by t.field u) surveys)) where
  go : (a b d x y z : Bool) → ((a || (b || d)) || (x || (y || z))) ≡ ((a || x) || ((b || y) || (d || z)))
  go true b d x y z = refl
  go false true d true y z = refl
  go false true d false y z = refl
  go false false true true y z = refl
  go false false true false true z = refl
  go false false true false false z = refl
  go false false false x y z = refl

pub possible_where_certain : (surveys : List SurveyValue) (u : ℕ) → list_any (λ s. is_certain_in s u) surveys ≡ true → list_any (λ s. is_possible_in s u) surveys ≡ true
possible_where_certain surveys u h = possible_parts surveys u ∙ rw h refl

pub possible_elsewhere : (surveys : List SurveyValue) (told : Told) (u : ℕ) → IsToldBy surveys told → IsUid u → list_any (λ s. is_certain_in s u) surveys ≡ false → (told.nothing || is_open_in told.«open» u) ≡ list_any (λ s. is_possible_in s u) surveys
possible_elsewhere surveys told u t is h = rw (t.nothing, t.open_uids u is) (sym (possible_parts surveys u ∙ rw h refl))
