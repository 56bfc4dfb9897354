-- Files that are read one after the other.
use Rattle.std.proofs.Common.{Result, Ok, Err, IfErr, IsErrAnd, ◌≡◌, ◌∙◌, ◌<◌, ◌+◌, ℕ, suc, List, [], ◌∷◌, ◌++◌, sym, ap, subst, length, take, drop, arith, append_assoc, get_or}
use Rattle.std.proofs.Math.Seq.{drop-cons}
use Rattle.std.proofs.lemmas.List.{take_more, take-append-drop}
use Rattle.std.proofs.lemmas.List.Elements.{AllZip-push, All-push}
use Rattle.std.specs.List.{All}
use Rattle.vic_log.specs.Device.{Grows}
use Rattle.vic_survey.specs.Names.{IsName}
use Rattle.vic_program.specs.Each.{IsTextOf, IsUnreadable, ReadsEach, StopsEarly}
use Rattle.vic_program.specs.FilesView.{FilesView}

-- the first of them, and one more
pub taken_next : (names : List (List ℕ)) (i : ℕ) (name : List ℕ) → i < length names → get_or names i [] ≡ name → take (i + 1) names ≡ take i names ++ name ∷ []
taken_next names i name lt is = take_more names i [] lt ∙ ap (λ n. take i names ++ n ∷ []) is

pub reads_none : {T : Type 0} (o : FilesView T) (P : List (List ℕ) → Type 0) → P [] → ReadsEach o [] P
reads_none o P h = record { texts = []; each = tt; holds = h }

pub reads_more : {T : Type 0} (o : FilesView T) (names : List (List ℕ)) (name text : List ℕ) (P Q : List (List ℕ) → Type 0) → ReadsEach o names P → IsTextOf o name text
    → ((texts : List (List ℕ)) → P texts → Q (texts ++ text ∷ [])) → ReadsEach o (names ++ name ∷ []) Q
reads_more o names name text P Q h one more = record {
  texts = h.texts ++ text ∷ [];
  each = AllZip-push (IsTextOf o) names h.texts name text h.each one;
  holds = more h.texts h.holds;
}

pub stops_at : {T : Type 0} (o : FilesView T) (names : List (List ℕ)) (i : ℕ) (name line : List ℕ) (P : List (List ℕ) → Type 0) → i < length names → get_or names i [] ≡ name
    → ReadsEach o (take i names) P → IsUnreadable o name line → StopsEarly o names line
stops_at o names i name line P lt is h stopped = record {
  before = take i names;
  name = name;
  after = drop (i + 1) names;
  names_are = sym (take-append-drop i names) ∙ ap (λ rest. take i names ++ rest) (drop-cons names i [] lt ∙ (ap (λ n. n ∷ drop (suc i) names) is ∙ ap (λ k. name ∷ drop k names) (let e : suc i ≡ i + 1 = omega arith in e)));
  texts = h.texts;
  each = h.each;
  stopped = stopped;
}

-- ---- names

pub no_name_in : (names : List (List ℕ)) (i : ℕ) (name : List ℕ) → i < length names → get_or names i [] ≡ name → (IsName name → ⊥) → All IsName names → ⊥
no_name_in names i name lt is none all = none (subst IsName is (all i [] lt))

pub names_more : (names : List (List ℕ)) (i : ℕ) (name : List ℕ) → i < length names → get_or names i [] ≡ name → IsName name → All IsName (take i names) → All IsName (take (i + 1) names)
names_more names i name lt is here all = subst (All IsName) (sym (taken_next names i name lt is)) (All-push IsName (take i names) name all here)

-- ---- what was read so far

pub part_read : {X E : Type 0} (r : Result X E) (a b c text more : List ℕ) → Grows a b text → Grows b c more → IfErr r (λ _. (t : List ℕ) × Grows a c t)
part_read (Ok x) a b c text more h k = tt
part_read (Err y) a b c text more h k = (text ++ more, k ∙ (ap (λ l. l ++ more) h ∙ append_assoc a text more))

-- ---- an error that was passed up

pub err_is : {X E : Type 0} (r : Result X E) (e : E) (P : E → Type 0) → IsErrAnd r (λ y. y ≡ e) → P e → IfErr r P
err_is (Ok x) e P same h = absurd same
err_is (Err y) e P same h = subst P (sym same) h
