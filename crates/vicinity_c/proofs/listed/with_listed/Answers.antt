use Rattle.vicinity_c.proofs.Words.{◌≡◌, ℕ, ◌+◌, List, ◌++◌, drop, slice_index, ap, ◌∙◌, w64, listed_text, to_be_bytes, bytes_line}
use Rattle.vicinity_c.proofs.ListedLines.{next_uid}
use Rattle.vicinity_c.proofs.listed.with_listed.Goals as goal

pub loop-uid-preserved : goal.loop-uid-preserved
loop-uid-preserved c =
    let us : List ℕ = c.args.uids.now in
    let i : ℕ = c.loop-uid.uid-index in
    let before : List ℕ = c.loop-uid.whole.items in
    let line : c.as_slice.result.now ≡ bytes_line 85 (to_be_bytes w64 (slice_index us i)) =
    c.as_slice.ensures.value ∙ c.bytes_line.ensures.items ∙ ap (bytes_line 85) c.to_be_bytes.ensures in
    let longer = c.in_ok-extend_from_slice.ensures.items ∙ ap (λ (xs : List ℕ). before ++ xs) line in
    ap (λ (xs : List ℕ). xs ++ listed_text (drop (i + 1) us)) longer ∙ next_uid before us i c.loop-uid-test.true ∙ c.loop-uid.invariant
