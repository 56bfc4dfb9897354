-- The names of the logs that pass a test are those at their positions.
use Rattle.vic_result.proofs.Words.{◌≡◌, ℕ, Bool, true, false, cond, List, [], ◌∷◌, ◌++◌, ◌+◌, ◌∙◌, ap, ap₂, refl, sym, arith, length, length-append, append_assoc, map, filter, slice_get, Some}
use Rattle.std.specs.Option.{option_map_or}
use Rattle.vic_survey.specs.Surveys.{SurveyValue}
use Rattle.vic_collection.specs.Collections.{positions_from}
use Rattle.vic_result.specs.ResultTable.{names_where}
use Rattle.vic_result.specs.NamesAt.{name_at, names_at}

-- the element behind some others
slice_get-behind : {A : Type 0} (before : List A) (x : A) (xs : List A) → slice_get (before ++ x ∷ xs) (length before) ≡ Some x
slice_get-behind [] x xs = refl
slice_get-behind (b ∷ before) x xs = slice_get-behind before x xs

names_from : (test : SurveyValue → Bool) (all before surveys : List SurveyValue) (k : ℕ) → all ≡ before ++ surveys → k ≡ length before
    → names_at all (positions_from test k surveys) ≡ names_where test surveys
names_from test all before [] k is at = refl
names_from test all before (s ∷ surveys) k is at =
    let rest = names_from test all (before ++ s ∷ []) surveys (k + 1) (is ∙ sym (append_assoc before (s ∷ []) surveys)) (omega (arith, length-append before (s ∷ []))) in
    let here : name_at all k ≡ s.name = rw (is, at) (ap (λ found. option_map_or (λ (t : SurveyValue). t.name) found []) (slice_get-behind before s surveys)) in
    elim (test s) as (λ b. names_at all (cond b (k ∷ positions_from test (k + 1) surveys) (positions_from test (k + 1) surveys)) ≡ map (λ t. t.name) (cond b (s ∷ filter test surveys) (filter test surveys))) [
      | true ↦ ap₂ (λ (n : List ℕ) (ns : List (List ℕ)). n ∷ ns) here rest
      | false ↦ rest
    ]

pub names_at-positions : (test : SurveyValue → Bool) (surveys : List SurveyValue) → names_at surveys (positions_from test 0 surveys) ≡ names_where test surveys
names_at-positions test surveys = names_from test surveys [] surveys 0 refl refl
