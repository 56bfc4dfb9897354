use Rattle.vic_walk.proofs.Words.{arith, eqb-true, slice_index, sym, ◌+◌, ◌≡◌}
use Rattle.vic_walk.proofs.PartLaws.{end_of_part}
use Rattle.vic_walk.proofs.PartUids.{gathers_key, gathers_more, gathers_none, none_keyed}
use Rattle.vic_walk.proofs.three.gather_part.Goals as goal

pub loop-key-init : goal.loop-key-init
loop-key-init c = rw c.first_key-key.ensures.first (gathers_none _ c.args.found.now.items (none_keyed _))

pub uid_at-requires : goal.uid_at-requires
uid_at-requires c =
    let lt = c.loop-key-test.true in
    let small = (end_of_part c.args.parts.now c.args.part c.first_key-key.ensures.borders c.requires).1 in
    omega (arith, lt, small, c.end_key-key-end.ensures)

pub loop-key-preserved : goal.loop-key-preserved
loop-key-preserved c =
    let lt = c.loop-key-test.true in
    let small = (end_of_part c.args.parts.now c.args.part c.first_key-key.ensures.borders c.requires).1 in
    gathers_key _ c.loop-key.key _ _ _ (omega (arith, lt, small, c.end_key-key-end.ensures)) (rw c.first_key-key.ensures.first at c.loop-key.auto.key) c.loop-key.invariant (rw (← c.uid_at.ensures.value) c.gather_one.ensures)

pub returns : goal.returns
returns c =
    let forward = (end_of_part c.args.parts.now c.args.part c.first_key-key.ensures.borders c.requires).0 in
    let end : c.loop-key.key ≡ slice_index c.args.parts.now (c.args.part + 1) = omega (arith, c.loop-key-test.false, c.loop-key.auto.key-end, forward, c.first_key-key.ensures.first, c.end_key-key-end.ensures) in
    rw (← end) c.loop-key.invariant

pub returns-then-is_full : goal.returns-then-is_full
returns-then-is_full c =
    let lt = c.loop-key-test.true in
    let full = eqb-true _ _ (sym c.if-is_full.ensures.value) in
    gathers_more _ c.loop-key.key _ _ _ (omega (arith, lt, c.end_key-key-end.ensures)) (omega (arith, full)) c.loop-key.invariant
