use Rattle.std.proofs.lemmas.Option.{slice_get-get_or}
use Rattle.vic_log.proofs.Words.{◌≡◌, ℕ, ◌+◌, ◌-◌, ◌%◌, ◌^◌, ◌<◌, ◌≤◌, cond, replicate, eqb, Some, List, length, map, slice_get, ap, ◌∙◌, arith, w64, eqb-true, bitmask_splat, length-chunk, trailing_mask_l, run_in_chunk_stops, prefix_len, not}
use lib.Count.{count_trailing_zeros}
use lib.Lanes.{chunk, mask_l, top, zip2}
use Rattle.vic_log.proofs.Lanes.{some_marked}
use Rattle.vic_log.proofs.uid_set.free_place.Goals as goal

-- the mask of the elements that are 0
marks : (xs : List ℕ) → length xs ≡ 8
    → mask_l (map (top 63) (zip2 (λ a b. cond (eqb a b) (2 ^ 64 - 1) 0) (chunk 0 8 xs) (replicate 8 0))) % 2 ^ 64 ≡ mask_l (map (λ x. eqb x 0) (chunk 0 8 xs))
marks xs long = bitmask_splat w64 eqb (chunk 0 8 xs) 8 0 (length-chunk 0 8 xs (omega arith)) (omega arith)

module _ (xs : List ℕ) (k : ℕ) (room : 0 + 8 ≤ length xs) (some : 0 < mask_l (map (λ x. eqb x 0) (chunk 0 8 xs)))
    (is : k ≡ count_trailing_zeros 64 (mask_l (map (λ x. eqb x 0) (chunk 0 8 xs)))) where
  counted : k ≡ prefix_len (λ x. not (eqb x 0)) (chunk 0 8 xs)
  counted = is ∙ trailing_mask_l (λ x. eqb x 0) 64 (chunk 0 8 xs) (omega (arith, length-chunk 0 8 xs room)) some

  within : k < 8
  within = omega (arith, counted, some_marked (λ x. eqb x 0) xs 0 8 room some)

  there : slice_get xs k ≡ Some 0
  there =
      let plain : 0 + k ≡ k = omega arith in
      let zero_at = eqb-true _ 0 (run_in_chunk_stops (λ x. eqb x 0) xs 0 8 k 0 room counted within) in
      slice_get-get_or xs k 0 (omega (arith, within)) ∙ ap Some (rw plain at zero_at)

free_at : (xs : List ℕ) (marks : ℕ) → length xs ≡ 8 → marks ≡ mask_l (map (λ x. eqb x 0) (chunk 0 8 xs)) → 0 < marks
    → (count_trailing_zeros 64 marks < 8) × (slice_get xs (count_trailing_zeros 64 marks) ≡ Some 0)
free_at xs marks long is pos =
    let room : 0 + 8 ≤ length xs = omega arith in
    let some : 0 < mask_l (map (λ x. eqb x 0) (chunk 0 8 xs)) = omega arith in (
      within xs _ room some (ap (count_trailing_zeros 64) is),
      there xs _ room some (ap (count_trailing_zeros 64) is),
    )

pub returns-clause-free : goal.returns-clause-free
returns-clause-free c = (free_at c.args.row.now _ c.told-row (marks c.args.row.now c.told-row) (omega arith)).1

pub returns-clause-inside : goal.returns-clause-inside
returns-clause-inside c = (free_at c.args.row.now _ c.told-row (marks c.args.row.now c.told-row) (omega arith)).0
