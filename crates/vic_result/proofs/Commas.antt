-- Values with commas between them, one after another.
use Rattle.vic_result.proofs.Words.{subst, ◌≡◌, ℕ, ◌+◌, ◌∙◌, List, [], ◌∷◌, ◌++◌, ap, refl, sym, append_assoc, append-nil, codes, length, length-map, map, slice_get, slice_get_within, Some, take, arith}
use Rattle.std.proofs.lemmas.Grind.{flat_map-append}
use Rattle.std.proofs.lemmas.List.{length-take-le}
use Rattle.vic_text.specs.Json.{comma_joined}
use Rattle.vic_result.specs.inner.Commas.{comma_before}
use Rattle.std.proofs.lemmas.Slice.Zip.{AllZip-long, all_zipped_more}
use Rattle.vic_survey.specs.Surveys.{SurveyValue}
use Rattle.vic_collection.specs.Collections.{CollectionValue}
use Rattle.vic_result.specs.ResultObject.{IsLogText}
use Rattle.vic_result.specs.inner.Logs.{AddsLog, AddsLogs}
use Rattle.vic_result.proofs.Elements.{map_next, taken_more}

pub comma_joined-push : (values : List (List ℕ)) (value : List ℕ) → comma_joined (values ++ value ∷ []) ≡ comma_joined values ++ (comma_before (length values) ++ value)
comma_joined-push [] value = append-nil value
comma_joined-push (first ∷ values) value =
    ap (λ s. first ++ s) (flat_map-append (λ v. codes "," ++ v) values (value ∷ [])) ∙ simp (append_assoc, append-nil) refl

pub comma_next : {A : Type 0} (f : A → List ℕ) (t : List ℕ) (xs : List A) (i : ℕ) (x : A) {u v w : List ℕ} → slice_get xs i ≡ Some x
    → u ≡ t ++ comma_joined (map f (take i xs)) → v ≡ u ++ comma_before i → w ≡ v ++ f x → w ≡ t ++ comma_joined (map f (take (i + 1) xs))
comma_next f t xs i x at d e g =
    let count : length (map f (take i xs)) ≡ i = length-map (take i xs) f ∙ length-take-le i xs (omega (arith, slice_get_within xs i x at)) in
    let all : comma_joined (map f (take (i + 1) xs)) ≡ comma_joined (map f (take i xs)) ++ (comma_before i ++ f x) =
    ap comma_joined (map_next f xs i x at) ∙ (comma_joined-push (map f (take i xs)) (f x) ∙ ap (λ n. comma_joined (map f (take i xs)) ++ (comma_before n ++ f x)) count) in
    rw (g, e, d, all) (simp append_assoc refl)

-- one log more
pub log_next : (c : CollectionValue) (t : List ℕ) (i : ℕ) (s : SurveyValue) {u v w : List ℕ} → slice_get c.surveys i ≡ Some s
    → AddsLogs c t u (take i c.surveys) → v ≡ u ++ comma_before i → AddsLog c v w s → AddsLogs c t w (take (i + 1) c.surveys)
log_next c t i s {u} {v} {w} at before comma here =
    let taken : take (i + 1) c.surveys ≡ take i c.surveys ++ s ∷ [] = taken_more c.surveys i s at in
    let pieces = before.0 in
    let count : length pieces ≡ i = AllZip-long (IsLogText c) (take i c.surveys) pieces before.1 ∙ length-take-le i c.surveys (omega (arith, slice_get_within c.surveys i s at)) in
    let text : w ≡ t ++ comma_joined (pieces ++ here.0 ∷ []) =
    here.2 ∙ (ap (λ x. x ++ here.0) (comma ∙ ap (λ x. x ++ comma_before i) before.2)
    ∙ (simp append_assoc refl ∙ ap (λ x. t ++ x) (ap (λ n. comma_joined pieces ++ (comma_before n ++ here.0)) (sym count) ∙ sym (comma_joined-push pieces here.0)))) in
    subst (AddsLogs c t w) (sym taken) (pieces ++ here.0 ∷ [], all_zipped_more (IsLogText c) (take i c.surveys) pieces s here.0 before.1 here.1, text)
