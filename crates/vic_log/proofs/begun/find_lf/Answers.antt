use Rattle.vic_log.proofs.Words.{◌≡◌, ℕ, ◌+◌, ◌<◌, ◌≤◌, eqb, Bool, false, true, not, List, length, map, get_or, sym, ap, ◌∙◌, arith, w8, lf, bitmask_splat, length-chunk, trailing_mask_l, run_in_chunk_fails, run_in_chunk_stops, prefix_len}
use lib.Count.{count_trailing_zeros}
use lib.Lanes.{chunk, mask_l}
use Rattle.vic_log.proofs.Lanes.{some_marked}
use Rattle.vic_log.proofs.begun.find_lf.Goals as goal

module _ (p : ℕ → Bool) (xs : List ℕ) (k : ℕ) (room : 32 ≤ length xs) (some : 0 < mask_l (map p (chunk 0 32 xs)))
    (is : k ≡ count_trailing_zeros 64 (mask_l (map p (chunk 0 32 xs)))) where
  counted : k ≡ prefix_len (λ x. not (p x)) (chunk 0 32 xs)
  counted = is ∙ trailing_mask_l p 64 (chunk 0 32 xs) (omega (arith, length-chunk 0 32 xs room)) some

  before : (j : ℕ) → j < k → p (get_or xs j 0) ≡ false
  before j lt = run_in_chunk_fails p xs 0 32 k 0 room counted j (omega arith) (omega arith)

  within : k < 32
  within = omega (arith, counted, some_marked p xs 0 32 room some)

  there : p (get_or xs k 0) ≡ true
  there = let plain : 0 + k ≡ k = omega arith in rw plain at (run_in_chunk_stops p xs 0 32 k 0 room counted within)

pub returns-then-marks-ne0 : goal.returns-then-marks-ne0
returns-then-marks-ne0 c =
    let xs = c.args.bytes.now in
    let p = λ (x : ℕ). eqb x lf in
    let room : 32 ≤ length xs = omega arith in
    let mask = bitmask_splat w8 eqb (chunk 0 32 xs) 32 lf (length-chunk 0 32 xs room) (omega arith) in
    let some : 0 < mask_l (map p (chunk 0 32 xs)) = omega (arith, mask) in
    let is = ap (count_trailing_zeros 64) mask in (
      record { low = omega arith; high = omega (arith, within p xs _ room some is); before = λ j from lt yes. absurd (cc (sym (before p xs _ room some is j lt) ∙ yes)) },
      there p xs _ room some is,
    )
