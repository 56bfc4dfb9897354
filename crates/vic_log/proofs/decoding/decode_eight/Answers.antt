use Rattle.vic_log.proofs.Words.{◌≡◌, ◌≢◌, ℕ, Bool, not, ◌+◌, ◌-◌, ◌*◌, ◌%◌, ◌<◌, ◌≤◌, leb, leb-false, leb-true, eqb-true, List, ◌++◌, map, length, get_or, refl, ap, ap₂, sym, ◌∙◌, arith, get_or-map, length-map, get_or_append_left, length-chunk, get_or-chunk, get_or-put_chunk_below, get_or-put_chunk_at, eqb-false, digit_or_255, prefix_len, run_in_chunk_stops, range_with_len, get_or-map-range_with_len, none_from_empty_mask}
use lib.Lanes.{chunk, mask_l}
use Rattle.vic_log.proofs.Lanes.{marks, some_marked}
use Rattle.vic_log.proofs.HexPairs.{no_digit}
use Rattle.vic_log.proofs.decoding.decode_eight.Goals as goal

abbrev pair : ℕ → ℕ → ℕ
pair h l = (h * 16 % 256 + l) % 256

abbrev eight : List ℕ → List ℕ
eight v = map (λ j. pair (get_or v (2 * j) 0) (get_or v (2 * j + 1) 0)) (range_with_len 0 8)

lane : (d v : List ℕ) (at i j : ℕ) → v ≡ map digit_or_255 (chunk (2 * at) 16 d) → 2 * at + 16 ≤ length d → i < 16 → 2 * at + i ≡ j
    → get_or (v ++ v) i 0 ≡ digit_or_255 (get_or d j 0)
lane d v at i j is room lt e =
    let long = length-chunk (2 * at) 16 d room in
    let size = ap length is ∙ length-map (chunk (2 * at) 16 d) digit_or_255 in
    get_or_append_left v v 0 i (omega arith) ∙ ap (λ l. get_or l i 0) is ∙ get_or-map digit_or_255 (chunk (2 * at) 16 d) i 0 0 (omega arith)
    ∙ ap digit_or_255 (get_or-chunk (2 * at) 16 d i 0 lt ∙ ap (λ k. get_or d k 0) e)

small_pair : (h l : ℕ) → h ≤ 15 → l ≤ 15 → pair h l ≡ h * 16 + l
small_pair h l a b = omega arith

-- no hex digit
abbrev fails : ℕ → Bool
fails x = leb 16 (digit_or_255 x)

pub returns-clause-before : goal.returns-clause-before
returns-clause-before c = λ k lt. get_or-put_chunk_below c.args.at c.args.bytes.now _ k 0 lt

pub returns-clause-ok : goal.returns-clause-ok
returns-clause-ok c = λ e k from to.
    let d = c.args.digits.now in
    let v = c.values_of-values.result in
    let at = c.args.at in
    let j = k - at in
    let is = c.values_of-values.ensures in
    let room : 2 * at + 16 ≤ length d = omega arith in
    let mask = sym (marks digit_or_255 (chunk (2 * at) 16 d) v 16 is (length-chunk (2 * at) 16 d room)) ∙ eqb-true _ _ e in
    let is_high : digit_or_255 (get_or d (2 * k) 0) ≤ 15 = omega (arith, leb-false _ _ (none_from_empty_mask fails d (2 * at) 16 0 room mask (2 * k) (omega arith) (omega arith))) in
    let is_low : digit_or_255 (get_or d (2 * k + 1) 0) ≤ 15 = omega (arith, leb-false _ _ (none_from_empty_mask fails d (2 * at) 16 0 room mask (2 * k + 1) (omega arith) (omega arith))) in
    let back : at + j ≡ k = omega arith in
    let there = sym (ap (λ m. get_or (lib.Lanes.put_chunk at c.args.bytes.now (eight (v ++ v))) m 0) back)
    ∙ get_or-put_chunk_at at c.args.bytes.now (eight (v ++ v)) j 0 (omega arith) (omega arith)
    ∙ get_or-map-range_with_len (λ m. pair (get_or (v ++ v) (2 * m) 0) (get_or (v ++ v) (2 * m + 1) 0)) 0 8 j j 0 (omega arith) (omega arith)
    ∙ ap₂ pair (lane d v at (2 * j) (2 * k) is room (omega arith) (omega arith)) (lane d v at (2 * j + 1) (2 * k + 1) is room (omega arith) (omega arith)) in
    record { is_high = is_high; is_low = is_low; byte_is = there ∙ small_pair _ _ is_high is_low }

pub returns-clause-err : goal.returns-clause-err
returns-clause-err c = λ e.
    let d = c.args.digits.now in
    let at = c.args.at in
    let room : 2 * at + 16 ≤ length d = omega arith in
    let r = prefix_len (λ x. not (fails x)) (chunk (2 * at) 16 d) in
    let mask = marks digit_or_255 (chunk (2 * at) 16 d) c.values_of-values.result 16 c.values_of-values.ensures (length-chunk (2 * at) 16 d room) in
    let some : mask_l (map fails (chunk (2 * at) 16 d)) ≢ 0 = λ none. absurd (omega (arith, eqb-false _ _ e, mask, none)) in
    let within = some_marked fails d (2 * at) 16 room (omega arith) in
    no_digit d (2 * at + r) (omega (arith, within)) (leb-true _ _ (run_in_chunk_stops fails d (2 * at) 16 r 0 room refl within))
