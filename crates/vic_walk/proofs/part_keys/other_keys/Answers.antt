use Rattle.vic_walk.proofs.Words.{arith, nat_tests, ◌+◌, ◌<◌, ◌≡◌, ◌≤◌, ◌==◌, not, true, false, slice_index, part_count}
use Rattle.vic_walk.proofs.PartKeys.{all_kept, none_kept, one_fails, one_passes, ranges_to_later, ranges_to_none}
use Rattle.vic_walk.proofs.PartLaws.{end_of_part, key_of_part}
use Rattle.vic_walk.proofs.part_keys.other_keys.Goals as goal
use Rattle.vic_walk.proofs.part_keys.other_keys.Goals.{then-values-part+in_ok-push_keys, else-values-part}

pub push_keys-requires : goal.push_keys-requires
push_keys-requires c =
    let lt : c.loop-part.part < part_count c.args.parts.now = omega (arith, c.loop-part-test.true, c.count-part-end.ensures.count) in
    let end = end_of_part c.args.parts.now c.loop-part.part c.count-part-end.ensures.borders lt in
    let low = end.0 in
    let high = end.1 in
    omega (arith, low, high, c.first_key.ensures.first)

pub loop-part-init : goal.loop-part-init
loop-part-init c = rw c.new-others.ensures.items (record {
  keys = none_kept c.args.parts.now (λ p. not (slice_index c.args.values.now p == c.args.value));
  ranges = ranges_to_none;
})

pub loop-part-preserved : goal.loop-part-preserved
loop-part-preserved c =
    let bs = c.args.parts.now in
    let vs = c.args.values.now in
    let borders = c.count-part-end.ensures.borders in
    let i = c.loop-part.invariant in
    let lt : c.loop-part.part < part_count bs = omega (arith, c.loop-part-test.true, c.count-part-end.ensures.count) in
    elim c.if-values-part.branch [
      | then-values-part+in_ok-push_keys w ↦
          let isnt : not (slice_index vs c.loop-part.part == c.args.value) ≡ false = grind (arith, nat_tests, w.if-values-part.true) in
          let some = (key_of_part bs c.loop-part.part borders lt).0.before in
          let upto = i.keys.upto in
          let forward : c.loop-part.from ≤ w.first_key.result = omega (arith, upto, w.first_key.ensures.first) in
          rw (w.others-is, w.from-is) (record {
            keys = one_fails bs (λ p. not (slice_index vs p == c.args.value)) c.loop-part.part c.loop-part.from w.first_key.result w.end_key-from.result _ _ borders lt isnt w.first_key.ensures.first w.end_key-from.ensures w.in_ok-push_keys.ensures.keys i.keys;
            ranges = ranges_to_later (w.first_key.result + 1) w.end_key-from.result _ (omega (arith, some, w.first_key.ensures.first, w.end_key-from.ensures)) (w.in_ok-push_keys.ensures.ranges forward i.ranges);
          })
      | else-values-part w ↦
          let is : not (slice_index vs c.loop-part.part == c.args.value) ≡ true = grind (arith, nat_tests, w.if-values-part.false) in
          rw (w.others-is, w.from-is) (record {
            keys = one_passes bs (λ p. not (slice_index vs p == c.args.value)) c.loop-part.part c.loop-part.from _ borders lt is i.keys;
            ranges = i.ranges;
          })
    ]

pub returns-clause-ranges : goal.returns-clause-ranges
returns-clause-ranges c =
    let bs = c.args.parts.now in
    let upto = c.loop-part.invariant.keys.upto in
    let all : c.loop-part.part ≡ part_count bs = omega (arith, c.loop-part-test.false, c.loop-part.auto.part-end, c.count-part-end.ensures.count) in
    let low = rw all at upto in
    (c.in_ok-push_keys-2.ensures.ranges (omega (arith, low, c.count-part-end.ensures.borders.last)) c.loop-part.invariant.ranges).ranges

pub returns-clause-keys : goal.returns-clause-keys
returns-clause-keys c = all_kept c.args.parts.now (λ p. not (slice_index c.args.values.now p == c.args.value)) c.loop-part.part c.loop-part.from _ _ c.count-part-end.ensures.borders (omega (arith, c.loop-part-test.false, c.count-part-end.ensures.count)) c.in_ok-push_keys-2.ensures.keys c.loop-part.invariant.keys
