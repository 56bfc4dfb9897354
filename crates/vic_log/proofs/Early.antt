-- An early fault stays the fault of each text that goes on.
use Rattle.vic_log.proofs.Words.{◌≡◌, ◌⊎◌, ℕ, suc, ◌<◌, ◌≤◌, false, Some, List, [], ◌∷◌, ◌++◌, length, refl, sym, ap, ◌∙◌, arith, append-nil, append_assoc, or_from, eqb-true, inl, inr, slice_get, nat_lt, if◌then◌else◌, ◌==◌, map, common_steps, nat_tests, cases_Bool, cases_lt, cond-true, cond-false, lt-ltb, length-map, length_push, map-append, slice_get_within, Entry, Version, LineFault, TooManyLines, LineTooLong, has, IsLong, IsJudged, IsEarlyFault, onto, cut, content, lines_of_text, entries, version_of, line_fault, log_upto, fault_on, IsFirstFault, IsCut}
use Rattle.vic_log.proofs.Passing.{AgreeBelow, log_agrees, fault_agrees, first_agrees}
use Rattle.vic_log.proofs.Places.{slice_get-append, slice_get_seam}
use Rattle.vic_log.proofs.Sets.{eq_swapped}
use Rattle.vic_log.proofs.Written.{parted, not_last, cut-line}

-- ---- bytes without LF

-- they begin the first part
pub record Begins (bytes : List ℕ) (parts : List (List ℕ)) : Type 0 where
  pub rest : List ℕ
  pub others : List (List ℕ)
  pub parts_are : parts ≡ (bytes ++ rest) ∷ others

begun : (b : ℕ) (parts : List (List ℕ)) → Begins (b ∷ []) (onto b parts)
begun b parts = grind (arith, nat_tests)

pub begins : (line more : List ℕ) → has line 10 ≡ false → 0 < length line → Begins line (cut (line ++ more))
begins [] more h some = absurd (omega arith)
begins (b ∷ []) more h some = rw (cond-false _ _ _ (parted b [] h).0) (begun b (cut more))
begins (b ∷ x ∷ tail) more h some = grind (arith, nat_tests, parted, begins (x ∷ tail) more)

-- or are the only one
pub cut-only : (line : List ℕ) → has line 10 ≡ false → 0 < length line → cut line ≡ line ∷ []
cut-only [] h some = absurd (omega arith)
cut-only (b ∷ []) h some = cond-false _ _ _ (parted b [] h).0
cut-only (b ∷ x ∷ tail) h some = let p = parted b (x ∷ tail) h in cond-false _ _ _ p.0 ∙ ap (onto b) (cut-only (x ∷ tail) p.1 (omega arith))

-- some bytes are some parts
pub cut-some : (b : ℕ) (more : List ℕ) → Begins [] (cut (b ∷ more))
cut-some b more = grind (arith, nat_tests)

-- ---- a text is parts with their LF, and bytes without one

-- more bytes without LF
pub IsCut-more : {text rest : List ℕ} {parts : List (List ℕ)} → IsCut text parts rest → (bytes : List ℕ) → has bytes 10 ≡ false → IsCut (text ++ bytes) parts (rest ++ bytes)
IsCut-more c bytes lacks = grind (arith, common_steps)

-- an LF
pub cut-end : {text rest : List ℕ} {parts : List (List ℕ)} → IsCut text parts rest → (more : List ℕ) → cut (text ++ 10 ∷ more) ≡ parts ++ (rest ++ 10 ∷ []) ∷ cut more
cut-end {rest = rest} {parts = parts} c more = c.cuts (10 ∷ more) ∙ ap (λ xs. parts ++ xs) (cut-line rest more c.no_lf)

pub IsCut-end : {text rest : List ℕ} {parts : List (List ℕ)} → IsCut text parts rest → IsCut (text ++ 10 ∷ []) (parts ++ (rest ++ 10 ∷ []) ∷ []) []
IsCut-end {text = text} {rest = rest} {parts = parts} c =
    record { cuts = λ more. rw (append_assoc text (10 ∷ []) more, append_assoc parts ((rest ++ 10 ∷ []) ∷ []) (cut more)) (cut-end c more); no_lf = refl }

record Split (text : List ℕ) : Type 0 where
  parts : List (List ℕ)
  tail : List ℕ
  is_cut : IsCut text parts tail

split_on : {text rest : List ℕ} {parts : List (List ℕ)} → IsCut text parts rest → (more : List ℕ) → Split (text ++ more)
split_on {text = text} {rest = rest} {parts = parts} c [] = rw append-nil (record { parts = parts; tail = rest; is_cut = c })
split_on {text = text} c (b ∷ more) = rw (← append_assoc text (b ∷ []) more) (elim (cases_Bool (b == 10)) [
  | inl ends ↦ rw (eqb-true b 10 ends) (split_on (IsCut-end c) more)
  | inr other ↦ split_on (IsCut-more c (b ∷ []) (or_from _ _ (eq_swapped 10 b ∙ other) refl)) more
])

split : (text : List ℕ) → Split text
split text = let none : IsCut [] [] [] = record { cuts = λ more. refl; no_lf = refl } in split_on none text

pub cut-whole : {text : List ℕ} {parts : List (List ℕ)} {rest : List ℕ} → IsCut text parts rest → cut text ≡ parts ++ cut rest
cut-whole {text = text} {parts = parts} {rest = rest} c = ap cut (sym (append-nil text)) ∙ (c.cuts [] ∙ ap (λ xs. parts ++ cut xs) (append-nil rest))

-- a part behind those with their LF is what is left
pub last_part : (parts : List (List ℕ)) (tail part : List ℕ) (place : ℕ) → has tail 10 ≡ false → slice_get (parts ++ cut tail) place ≡ Some part → length parts ≤ place → (place ≡ length parts) × (part ≡ tail) × (0 < length tail)
last_part parts [] part place h k above = let within = slice_get_within (parts ++ []) place part k in let size = ap length (append-nil parts) in absurd (omega arith)
last_part parts (b ∷ t) part place h k above =
    let only : cut (b ∷ t) ≡ (b ∷ t) ∷ [] = cut-only (b ∷ t) h (omega arith) in
    let there : slice_get (parts ++ (b ∷ t) ∷ []) place ≡ Some part = rw only at k in
    let within = slice_get_within (parts ++ (b ∷ t) ∷ []) place part there in
    let last : place ≡ length parts = omega (arith, length_push parts (b ∷ t)) in
    let same : part ≡ b ∷ t = cc (slice_get_seam parts (b ∷ t) []) in
    (last, same, omega arith)

-- ---- how long a line is without its end

pub content-open : (part : List ℕ) → has part 10 ≡ false → content part ≡ part
content-open part h = cond-false _ _ _ (not_last part 10 h)

pub still_long : (part rest : List ℕ) → has part 10 ≡ false → IsLong part → 128 < length (content (part ++ rest))
still_long part rest h k = grind (arith, common_steps)

pub too_many : (v : Version) (es : List Entry) (n : ℕ) (line : List ℕ) → 1000000 < n → line_fault v es n (Some line) ≡ Some TooManyLines
too_many v es n line h = cond-true _ _ _ (lt-ltb 1000000 n h)

pub too_long : (v : Version) (es : List Entry) (n : ℕ) (line : List ℕ) → 128 < length line → line_fault v es n (Some line) ≡ (if nat_lt 1000000 n then Some TooManyLines else Some LineTooLong)
too_long v es n line h = ap (λ o. if nat_lt 1000000 n then Some TooManyLines else o) (cond-true (nat_lt 128 (length line)) (Some LineTooLong) _ (lt-ltb 128 (length line) h))

-- ---- the last part goes on

-- a judged part has its fault in either version, and whatever follows
same_fault : (v w : Version) (es : List Entry) (n : ℕ) (part rest : List ℕ) → has part 10 ≡ false → IsJudged part ⊎ (n ≡ 1000001) → line_fault v es n (Some (content part)) ≡ line_fault w es n (Some (content (part ++ rest)))
same_fault v w es n part rest h (inr last) = too_many v es n (content part) (omega arith) ∙ sym (too_many w es n (content (part ++ rest)) (omega arith))
same_fault v w es n part rest h (inl (inl lf)) = let no_ = not_last part 10 h in cc
same_fault v w es n part rest h (inl (inr l)) = rw (too_long v es n (content part) (rw append-nil at (still_long part [] h l)), too_long w es n (content (part ++ rest)) (still_long part rest h l)) refl

fronts_agree : (ls ks ms : List (List ℕ)) → AgreeBelow (length ls) (ls ++ ks) (ls ++ ms)
fronts_agree ls ks ms i below = sym (slice_get-append ls ks i below) ∙ slice_get-append ls ms i below

fault_at : (ls : List (List ℕ)) (line : List ℕ) (others : List (List ℕ)) → fault_on (ls ++ line ∷ others) (suc (length ls)) ≡ line_fault (version_of (ls ++ line ∷ others)) (entries (log_upto ls (length ls))) (suc (length ls)) (Some line)
fault_at ls line others = rw (slice_get_seam ls line others, log_agrees (length ls) (ls ++ line ∷ others) ls (λ i below. sym (slice_get-append ls (line ∷ others) i below))) refl

grown : (ls : List (List ℕ)) (tail rest : List ℕ) (others : List (List ℕ)) (f : LineFault) → has tail 10 ≡ false → IsJudged tail ⊎ (suc (length ls) ≡ 1000001)
    → IsFirstFault (ls ++ content tail ∷ []) (suc (length ls)) f → IsFirstFault (ls ++ content (tail ++ rest) ∷ others) (suc (length ls)) f
grown ls tail rest others f h j r =
    let now_ = ls ++ content tail ∷ [] in
    let then_ = ls ++ content (tail ++ rest) ∷ others in
    record {
      here = fault_at ls (content (tail ++ rest)) others
          ∙ sym (same_fault (version_of now_) (version_of then_) (entries (log_upto ls (length ls))) (suc (length ls)) tail rest h j)
          ∙ sym (fault_at ls (content tail) []) ∙ r.here;
      first = λ m lt. sym (fault_agrees m now_ then_ (λ i below. fronts_agree ls (content tail ∷ []) (content (tail ++ rest) ∷ others) i (omega arith))) ∙ r.first m lt;
    }

-- the lines of a text that goes on
pub lines_are : (text : List ℕ) (parts : List (List ℕ)) (ps : List (List ℕ)) → cut text ≡ parts ++ ps → lines_of_text text ≡ map content parts ++ map content ps
lines_are text parts ps e = ap (map content) e ∙ map-append content parts ps

pub early : (text more : List ℕ) (n : ℕ) (f : LineFault) → IsEarlyFault text n f → IsFirstFault (lines_of_text (text ++ more)) n f
early text more n f h =
    let s = split text in
    let tail = s.tail in
    let no_lf = s.is_cut.no_lf in
    let ls = map content s.parts in
    let long : length ls ≡ length s.parts = length-map s.parts content in
    let number = h.number in
    let whole = cut-whole s.is_cut in
    let now_ = lines_are text s.parts (cut tail) whole in
    rw (lines_are (text ++ more) s.parts (cut (tail ++ more)) (s.is_cut.cuts more)) (elim (cases_lt h.place (length s.parts)) [
      | inl below ↦ first_agrees n _ _ f (λ i lt. fronts_agree ls (map content (cut tail)) (map content (cut (tail ++ more))) i (omega arith)) (rw now_ at h.fault)
      | inr above ↦
          let last = last_part s.parts tail h.part h.place no_lf (rw whole at h.there) above in
          let place = last.0 in
          let is : n ≡ suc (length ls) = omega arith in
          let g = begins tail more no_lf last.2 in
          rw (g.parts_are, is) (grown ls tail g.rest (map content g.others) f no_lf (rw (last.1, is) at h.judged) (rw (now_, cut-only tail no_lf last.2, is) at h.fault))
    ])
