-- UIDs on lines after a text.
use Rattle.vicinity_c.proofs.Words.{◌≡◌, ℕ, ◌+◌, ◌<◌, suc, List, [], ◌∷◌, ◌++◌, length, drop, drop-cons, slice_index, ap, sym, ◌∙◌, append_assoc, arith, w64, entry_text, listed_text, to_be_bytes, Listed, lf, bytes_line}

-- one line more
pub next_uid : (text : List ℕ) (us : List ℕ) (i : ℕ) → i < length us
    → (text ++ bytes_line 85 (to_be_bytes w64 (slice_index us i))) ++ listed_text (drop (i + 1) us) ≡ text ++ listed_text (drop i us)
next_uid text us i h =
    let u = slice_index us i in
    let next : i + 1 ≡ suc i = omega arith in
    append_assoc text (bytes_line 85 (to_be_bytes w64 u)) (listed_text (drop (i + 1) us))
    ∙ ap (λ xs. text ++ xs) (append_assoc (entry_text (Listed u)) (lf ∷ []) (listed_text (drop (i + 1) us))
    ∙ ap listed_text (ap (λ n. u ∷ drop n us) next ∙ sym (drop-cons us i 0 h)))
