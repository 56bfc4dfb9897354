-- Texts cut off from bytes.
use Rattle.std.proofs.Common.{◌≡◌, ◌<◌, ◌∙◌, ◌+◌, suc, ℕ, List, [], ◌∷◌, length, ◌++◌, take, drop, get_or, arith, ap, add-one, append_assoc}
use Rattle.std.proofs.Math.Seq.{drop-append_seam, drop-cons, drop-length}
use Rattle.std.proofs.lemmas.List.{length-append, drop-drop, take-append-drop}
use Rattle.std.proofs.lemmas.Grind.{flat_map-append}
use Rattle.std.specs.List.{flat_map}
use Rattle.vicinity_c.specs.Run.{AreTexts}

-- too few bytes are left for the next text
AreTexts-short : (rest : List ℕ) (n : ℕ) (ns : List ℕ) (texts : List (List ℕ)) → length rest < n → AreTexts rest (n ∷ ns) texts → ⊥
AreTexts-short rest n ns [] lt h = let m = h.measured in cc
AreTexts-short rest n ns (t ∷ ts) lt h =
    let m = h.measured in
    let e : length t ≡ n = cc in
    let l : length rest ≡ length t + length (flat_map (λ text. text) ts) = ap length h.joined ∙ length-append t (flat_map (λ text. text) ts) in
    omega (arith, e, l, lt)

-- behind the first text are the others
AreTexts-drop : (rest : List ℕ) (n : ℕ) (ns : List ℕ) (texts : List (List ℕ)) → AreTexts rest (n ∷ ns) texts → AreTexts (drop n rest) ns (drop 1 texts)
AreTexts-drop rest n ns [] h = absurd (let m = h.measured in cc)
AreTexts-drop rest n ns (t ∷ ts) h =
    let m = h.measured in
    let e : n ≡ length t = cc in
    record {
      joined = rw (e, h.joined) (drop-append_seam {A = ℕ} t (flat_map (λ text. text) ts));
      measured = cc;
    }

-- no text has no bytes
AreTexts-none : (rest : List ℕ) (texts : List (List ℕ)) → AreTexts rest [] texts → rest ≡ []
AreTexts-none rest [] h = h.joined
AreTexts-none rest (t ∷ ts) h = absurd (let m = h.measured in cc)

-- ---- at an index

pub AreTexts-short_at : (rest : List ℕ) (ns : List ℕ) (i : ℕ) (texts : List (List ℕ)) → i < length ns → length rest < get_or ns i 0 → AreTexts rest (drop i ns) texts → ⊥
AreTexts-short_at rest ns i texts lt short h = AreTexts-short rest (get_or ns i 0) (drop (suc i) ns) texts short (rw (drop-cons ns i 0 lt) at h)

pub AreTexts-drop_at : (rest : List ℕ) (ns : List ℕ) (i : ℕ) (texts : List (List ℕ)) → i < length ns → AreTexts rest (drop i ns) (drop i texts) → AreTexts (drop (get_or ns i 0) rest) (drop (i + 1) ns) (drop (i + 1) texts)
AreTexts-drop_at rest ns i texts lt h =
    let e : i + 1 ≡ suc i = add-one i in
    let d = AreTexts-drop rest (get_or ns i 0) (drop (suc i) ns) (drop i texts) (rw (drop-cons ns i 0 lt) at h) in
    rw e (rw (drop-drop 1 i texts, e) at d)

pub AreTexts-none_at : (rest : List ℕ) (ns : List ℕ) (i : ℕ) (texts : List (List ℕ)) → i ≡ length ns → AreTexts rest (drop i ns) texts → rest ≡ []
AreTexts-none_at rest ns i texts e h = AreTexts-none rest texts (rw (e, drop-length ns) at h)

-- ---- one text more

pub joined-more : (bytes rest : List ℕ) (texts : List (List ℕ)) (n : ℕ) → bytes ≡ flat_map (λ text. text) texts ++ rest → bytes ≡ flat_map (λ text. text) (texts ++ take n rest ∷ []) ++ drop n rest
joined-more bytes rest texts n h =
    let s = take-append-drop n rest in
    simp (flat_map-append, append_assoc, s) h
