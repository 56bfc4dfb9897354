-- The text of a log reads back.
use Rattle.vic_log.proofs.Words.{◌≡◌, ℕ, suc, ◌+◌, ◌-◌, ◌<◌, ◌≤◌, true, false, Some, None, Ok, List, [], ◌∷◌, ◌++◌, length, refl, sym, ap, subst, ◌∙◌, arith, append_assoc, append-nil, slice_get, nat_eq, ◌==◌, map, common_steps, nat_tests, cond-true, cond-false, or_parts, ne_eqb, le-ltb, length_push, Entry, has, IsInOrder, entries, onto, cut, ends_with, all_but_last, without_last, content, lines_of_text, line_reading, line_fault, IsLogOf, after_line, LogValue, Version, entry_text, numbered, AreRead, take-append_seam, AllByRecursion, reading_fault, header, joined}
use Rattle.vic_log.proofs.Passing.{AreRead-push, AreRead-end}
use Rattle.vic_log.proofs.Follow.{first_reason-none}
use Rattle.vic_log.proofs.Push.{entries-numbered}
use Rattle.vic_log.proofs.Sets.{eq_swapped}

-- ---- lines that are joined are cut again

-- the first of some bytes, and the others
pub parted : (b : ℕ) (tail : List ℕ) → has (b ∷ tail) 10 ≡ false → (b == 10 ≡ false) × (has tail 10 ≡ false)
parted b tail h = let p = or_parts (nat_eq 10 b) (has tail 10) h in (eq_swapped b 10 ∙ p.0, p.1)

pub cut-line : (line rest : List ℕ) → has line 10 ≡ false → cut (line ++ 10 ∷ rest) ≡ (line ++ 10 ∷ []) ∷ cut rest
cut-line [] rest h = refl
cut-line (b ∷ line) rest h = let p = parted b line h in cond-false _ _ _ p.0 ∙ ap (onto b) (cut-line line rest p.1)

pub not_last : (line : List ℕ) (b : ℕ) → has line b ≡ false → ends_with b line ≡ false
not_last line b h = grind (arith, common_steps)

pub all_but_last-push : (line : List ℕ) (b : ℕ) → all_but_last (line ++ b ∷ []) ≡ line
all_but_last-push line b = let place : length (line ++ b ∷ []) - 1 ≡ length line = omega (arith, length_push line b) in rw place (take-append_seam line (b ∷ []))

pub ends_with-push : (line : List ℕ) (b : ℕ) → ends_with b (line ++ b ∷ []) ≡ true
ends_with-push line b = grind (arith, common_steps)

-- what is left of a part with its LF
pub content-end : (line : List ℕ) → content (line ++ 10 ∷ []) ≡ without_last 13 line
content-end line = cond-true _ _ _ (ends_with-push line 10) ∙ ap (without_last 13) (all_but_last-push line 10)

content-line : (line : List ℕ) → has line 13 ≡ false → content (line ++ 10 ∷ []) ≡ line
content-line line h = content-end line ∙ cond-false _ _ _ (not_last line 13 h)

-- neither LF nor CR is in a line
pub record IsPlain (line : List ℕ) : Type 0 where
  pub no_lf : has line 10 ≡ false
  pub no_cr : has line 13 ≡ false

pub lines-joined : (lines : List (List ℕ)) → AllByRecursion IsPlain lines → lines_of_text (joined lines) ≡ lines
lines-joined [] plain = refl
lines-joined (line ∷ lines) plain =
    ap (map content) (cut-line line (joined lines) plain.0.no_lf)
    ∙ (ap (λ l. l ∷ lines_of_text (joined lines)) (content-line line plain.0.no_cr) ∙ ap (λ ls. line ∷ ls) (lines-joined lines plain.1))

-- ---- the lines of entries in order have no fault

-- the entry's line reads back in this version
pub record IsSpelled (version : Version) (e : Entry) : Type 0 where
  pub reads : line_reading version (entry_text e) ≡ Ok (Some e)
  pub short : length (entry_text e) ≤ 128
  pub plain : IsPlain (entry_text e)

numbered-push : (n : ℕ) (es : List Entry) (e : Entry) → numbered n (es ++ e ∷ []) ≡ numbered n es ++ record { number = n + length es; item = e } ∷ []
numbered-push n [] e = let same : n ≡ n + 0 = omega arith in ap (λ k. record { number = k; item = e } ∷ []) same
numbered-push n (x ∷ es) e = grind (arith, nat_tests, numbered-push (suc n) es e)

not_first : (n : ℕ) → 1 < n → nat_eq n 1 ≡ false
not_first n some = ne_eqb n 1 (λ same. absurd (omega arith))

no_fault : (v : Version) (es fs : List Entry) (e : Entry) (n : ℕ) → IsInOrder (es ++ e ∷ fs) → IsSpelled v e → 1 < n → n ≤ 1000000 → line_fault v es n (Some (entry_text e)) ≡ None
no_fault v es fs e n o s some few =
    cond-false _ _ _ (le-ltb 1000000 n few) ∙ (cond-false _ _ _ (le-ltb 128 (length (entry_text e)) s.short) ∙ (cond-false _ _ _ (not_first n some)
    ∙ (ap (reading_fault es) s.reads ∙ first_reason-none _ _ _ es fs e o)))

-- these entries on the lines 2, 3, 4 and so on
abbrev of_version : Version → List Entry → LogValue
of_version v es = record { lines = numbered 2 es; version = v }

after_line-is : (v : Version) (es : List Entry) (e : Entry) (n : ℕ) → n ≡ 2 + length es → IsSpelled v e → after_line (of_version v es) n (entry_text e) ≡ of_version v (es ++ e ∷ [])
after_line-is v es e n at s = let reads = s.reads in grind (arith, nat_tests, numbered-push)

abbrev pub AreSpelled : Version → List Entry → Type 0
AreSpelled v es = (i : ℕ) (e : Entry) → slice_get es i ≡ Some e → IsSpelled v e

reads_on : (v : Version) (lines : List (List ℕ)) (es rest : List Entry) → AreRead lines (of_version v es) (suc (length es)) → IsInOrder (es ++ rest) → AreSpelled v rest → length es + length rest ≤ 999999
    → IsLogOf (lines ++ map entry_text rest) (of_version v (es ++ rest))
reads_on v lines es [] r o s few = rw (append-nil lines, append-nil es) (AreRead-end r (omega arith))
reads_on v lines es (e ∷ rest) r o s few =
    let n = suc (length es) in
    let line = entry_text e in
    let first = s 0 e refl in
    let clean : line_fault v (entries (numbered 2 es)) (suc n) (Some line) ≡ None = ap (λ fs. line_fault v fs (suc n) (Some line)) (entries-numbered 2 es) ∙ no_fault v es rest e (suc n) o first (omega arith) (omega arith) in
    let long : length (es ++ e ∷ []) ≡ n = omega (arith, length_push es e) in
    let more : AreRead (lines ++ line ∷ []) (of_version v (es ++ e ∷ [])) (suc (length (es ++ e ∷ []))) = rw (long, ← after_line-is v es e (suc n) (omega arith) first) (AreRead-push r line clean) in
    rw (← append_assoc lines (line ∷ []) (map entry_text rest), ← append_assoc es (e ∷ []) rest)
    (reads_on v (lines ++ line ∷ []) (es ++ e ∷ []) rest more (rw append_assoc o) (λ i f k. s (suc i) f k) (omega arith))

plain_all : (v : Version) (es : List Entry) → AreSpelled v es → AllByRecursion IsPlain (map entry_text es)
plain_all v [] s = tt
plain_all v (e ∷ es) s = ((s 0 e refl).plain, plain_all v es (λ j f g. s (suc j) f g))

header_plain : (v : Version) → IsPlain (header v)
header_plain v = grind (arith, nat_tests)

-- the header is line 1, and names its version
header_read : (v : Version) → AreRead (header v ∷ []) (of_version v []) 1
header_read v = grind (arith, nat_tests)

-- the text of entries in order reads back as these entries, numbered from 2 on
pub text_of-reads : (v : Version) (es : List Entry) → IsInOrder es → AreSpelled v es → length es ≤ 999999 → IsLogOf (lines_of_text (joined (header v ∷ map entry_text es))) (of_version v es)
text_of-reads v es o s few =
    let lines = header v ∷ map entry_text es in
    subst (λ ls. IsLogOf ls (of_version v es)) (sym (lines-joined lines (header_plain v, plain_all v es s))) (reads_on v (header v ∷ []) [] es (header_read v) o s (omega arith))
