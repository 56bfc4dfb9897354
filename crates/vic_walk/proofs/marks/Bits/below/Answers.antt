use Rattle.std.proofs.Common.{ap, slice_set, ◌-◌, ◌/◌}
use Rattle.vic_walk.proofs.BitLaws.{bit_of, first_bits_and_rest}
use Rattle.vic_walk.proofs.marks.Bits.below.Goals as goal

pub returns-clause-set : goal.returns-clause-set
returns-clause-set c k =
    let all = c.in_ok-words.ensures.items_if_clones_equal (λ y e. e) in
    first_bits_and_rest _ _ k (ap (λ v. slice_set v (c.args.end / 64) (bit_of c.args.end - 1)) all)
