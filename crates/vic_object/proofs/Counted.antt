-- How many lines begin in a text.
use Rattle.std.proofs.Common.{◌≡◌, ◌∙◌, ℕ, ◌+◌, ◌<◌, ◌≤◌, ◌==◌, Bool, true, false, not, List, [], ◌∷◌, refl, arith, length, if◌then◌else◌, drop, drop-cons, get_or, add-one}
use Rattle.std.proofs.lemmas.List.{drop_all}
use Rattle.vic_log.specs.Lines.{cut, lf, onto}

-- how many lines begin in some bytes, by whether the first one's line is begun
abbrev pub lines_from : Bool → List ℕ → ℕ
lines_from begun [] = 0
lines_from begun (b ∷ bytes) = (if begun then 0 else 1) + lines_from (not (b == lf)) bytes

onto_some : (b : ℕ) (parts : List (List ℕ)) → 0 < length parts → length (onto b parts) ≡ length parts
onto_some b [] h = absurd (omega arith)
onto_some b (part ∷ parts) h = refl

onto_next : (b : ℕ) (bytes : List ℕ) → length (cut bytes) ≡ lines_from false bytes → length (onto b (cut bytes)) ≡ 1 + lines_from true bytes
onto_next b [] e = refl
onto_next b (c ∷ bytes) e =
    let some : 0 < length (cut (c ∷ bytes)) = omega (arith, e) in
    onto_some b (cut (c ∷ bytes)) some ∙ e ∙ omega arith

pub cut_lines : (bytes : List ℕ) → length (cut bytes) ≡ lines_from false bytes
cut_lines [] = refl
cut_lines (b ∷ bytes) =
    elim (b == lf) as (λ t. length (if t then (b ∷ []) ∷ cut bytes else onto b (cut bytes)) ≡ 1 + lines_from (not t) bytes) [
      | true ↦ omega (arith, cut_lines bytes)
      | false ↦ onto_next b bytes (cut_lines bytes)
    ]

-- one more byte
pub lines_next : (bytes : List ℕ) (i : ℕ) (begun : Bool) → i < length bytes
    → lines_from begun (drop i bytes) ≡ (if begun then 0 else 1) + lines_from (not (get_or bytes i 0 == lf)) (drop (i + 1) bytes)
lines_next bytes i begun h =
    let rest : drop i bytes ≡ get_or bytes i 0 ∷ drop (i + 1) bytes = rw add-one (drop-cons bytes i 0 h) in
    rw rest refl

pub no_line_left : (bytes : List ℕ) (i : ℕ) (begun : Bool) → length bytes ≤ i → lines_from begun (drop i bytes) ≡ 0
no_line_left bytes i begun h = rw (drop_all i bytes h) refl
