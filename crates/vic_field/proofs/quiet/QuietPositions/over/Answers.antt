use Rattle.vic_field.proofs.Words.{arith}
use Rattle.vic_field.proofs.PositionLaws.{all_blank, sound_later}
use Rattle.vic_field.proofs.quiet.QuietPositions.over.Goals as goal

pub invariant_of-result : goal.invariant_of-result
invariant_of-result c =
    let positions = all_blank _ _ (c.in_ok-vec.ensures.items_if_clones_equal (λ y e. e)) in
    let words = all_blank _ _ (c.in_ok-vec-2.ensures.items_if_clones_equal (λ y e. e)) in
    let groups = all_blank _ _ (c.in_ok-vec-3.ensures.items_if_clones_equal (λ y e. e)) in
    record { sound = sound_later 0 1 _ _ _ (omega arith) positions.0 words.0 groups.0 (omega (arith, positions.1, words.1)) (omega (arith, words.1, groups.1)) }
