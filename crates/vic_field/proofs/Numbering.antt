-- Entries on numbered lines.
use Rattle.vic_field.proofs.Words.{◌≡◌, ℕ, suc, ◌+◌, List, [], ◌∷◌, ◌++◌, length, refl, ap, ◌∙◌, arith, append_assoc, Entry, LogLine, LogValue, last_from, entries, with_entries, map-append, numbered, entries-numbered}

last_from-append : (n : ℕ) (ls ms : List LogLine) → last_from n (ls ++ ms) ≡ last_from (last_from n ls) ms
last_from-append n [] ms = refl
last_from-append n (l ∷ ls) ms = last_from-append l.number ls ms

pub last_from-numbered : (n : ℕ) (es : List Entry) → last_from n (numbered (suc n) es) ≡ n + length es
last_from-numbered n [] = omega arith
last_from-numbered n (e ∷ es) = let h : last_from (suc n) (numbered (suc (suc n)) es) ≡ suc n + length es = last_from-numbered (suc n) es in h ∙ omega arith

pub numbered-append : (n : ℕ) (es fs : List Entry) → numbered n (es ++ fs) ≡ numbered n es ++ numbered (n + length es) fs
numbered-append n [] fs = let h : n ≡ n + 0 = omega arith in ap (λ (m : ℕ). numbered m fs) h
numbered-append n (e ∷ es) fs =
    let h : suc n + length es ≡ n + length (e ∷ es) = omega arith in
    ap (λ (ls : List LogLine). record { number = n; item = e } ∷ ls) (numbered-append (suc n) es fs ∙ ap (λ (m : ℕ). numbered (suc n) es ++ numbered m fs) h)

-- the entries with more
pub entries-with : (log : LogValue) (es : List Entry) → entries (with_entries log es).lines ≡ entries log.lines ++ es
entries-with log es = map-append (λ (x : LogLine). x.item) log.lines (numbered (suc (last_from 1 log.lines)) es) ∙ ap (λ (fs : List Entry). entries log.lines ++ fs) (entries-numbered (suc (last_from 1 log.lines)) es)

-- the last number with more
pub last_from-with : (log : LogValue) (es : List Entry) → last_from 1 (with_entries log es).lines ≡ last_from 1 log.lines + length es
last_from-with log es = last_from-append 1 log.lines (numbered (suc (last_from 1 log.lines)) es) ∙ last_from-numbered (last_from 1 log.lines) es

-- more, and more again
pub with-append : (log : LogValue) (es fs : List Entry) → with_entries (with_entries log es) fs ≡ with_entries log (es ++ fs)
with-append log es fs =
    let n = suc (last_from 1 log.lines) in
    let at : suc (last_from 1 (with_entries log es).lines) ≡ n + length es = let h = last_from-with log es in omega arith in
    cc (append_assoc log.lines (numbered n es) (numbered (suc (last_from 1 (with_entries log es).lines)) fs), numbered-append n es fs)

-- ---- lines from 2 on

pub last_is : (lines : List LogLine) → lines ≡ numbered 2 (entries lines) → last_from 1 lines ≡ suc (length (entries lines))
last_is lines h = ap (last_from 1) h ∙ last_from-numbered 1 (entries lines) ∙ omega arith

pub numbers_next : (log : LogValue) (es : List Entry) → log.lines ≡ numbered 2 (entries log.lines) → (with_entries log es).lines ≡ numbered 2 (entries (with_entries log es).lines)
numbers_next log es h =
    let last = last_is log.lines h in
    let at : suc (last_from 1 log.lines) ≡ 2 + length (entries log.lines) = omega arith in
    cc (numbered-append 2 (entries log.lines) es, entries-with log es)
