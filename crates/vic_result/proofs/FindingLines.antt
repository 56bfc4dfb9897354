-- The names and places in the lines of findings.
use Rattle.vic_result.proofs.Words.{◌≡◌, ◌∙◌, ◌<◌, ◌++◌, ◌+◌, ◌∷◌, [], ℕ, List, None, Some, ap, append_assoc, append-nil, codes, flat_map, get_or, length, refl, slice_get, sym, take, take_more}
use Rattle.std.proofs.lemmas.Grind.{flat_map-append}
use Rattle.vic_survey.specs.Surveys.{SurveyValue}
use Rattle.vic_collection.specs.Collections.{CollectionValue, certain_logs, is_certain_in}
use Rattle.vic_result.specs.NamesAt.{name_at, names_at}
use Rattle.vic_result.specs.ResultLines.{ended, first_certain, first_name}
use Rattle.vic_result.proofs.NamedLogs.{names_at-positions}

-- ---- the first name

pub first_at : (surveys : List SurveyValue) (logs : List ℕ) (k : ℕ) → Some k ≡ slice_get logs 0 → name_at surveys k ≡ first_name (names_at surveys logs)
first_at surveys [] k at = absurd cc
first_at surveys (log ∷ logs) k at = let same : k ≡ log = cc in ap (name_at surveys) same

pub none_first : (surveys : List SurveyValue) (logs : List ℕ) → None ≡ slice_get logs 0 → [] ≡ first_name (names_at surveys logs)
none_first surveys [] at = refl
none_first surveys (log ∷ logs) at = absurd cc

pub first_certain-at : (c : CollectionValue) (u : ℕ) → first_name (names_at c.surveys (certain_logs c u)) ≡ first_certain c u
first_certain-at c u = ap first_name (names_at-positions (λ s. is_certain_in s u) c.surveys)

-- ---- texts

-- a line of three words and what follows each
pub line_of_three : (t a b d e f g : List ℕ) {u v w x : List ℕ} → u ≡ t ++ (a ++ b) → v ≡ u ++ (d ++ e) → w ≡ v ++ (f ++ g) → x ≡ w ++ codes "\n" → x ≡ t ++ ended (a ++ b ++ d ++ e ++ f ++ g)
line_of_three t a b d e f g one two three last = rw (last, three, two, one) (simp append_assoc refl)

-- the lines of one more
pub lines_next : {A : Type 0} (f : A → List ℕ) (t : List ℕ) (xs : List A) (i : ℕ) (x : A) {u v : List ℕ} → i < length xs → x ≡ get_or xs i x
    → u ≡ t ++ flat_map f (take i xs) → v ≡ u ++ f x → v ≡ t ++ flat_map f (take (i + 1) xs)
lines_next f t xs i x lt is before added =
    let taken : take (i + 1) xs ≡ take i xs ++ x ∷ [] = take_more xs i x lt ∙ ap (λ y. take i xs ++ y ∷ []) (sym is) in
    let all : flat_map f (take (i + 1) xs) ≡ flat_map f (take i xs) ++ f x =
    ap (flat_map f) taken ∙ (flat_map-append f (take i xs) (x ∷ []) ∙ ap (λ s. flat_map f (take i xs) ++ s) (append-nil (f x))) in
    added ∙ (ap (λ s. s ++ f x) before ∙ (append_assoc t (flat_map f (take i xs)) (f x) ∙ ap (λ s. t ++ s) (sym all)))
