use Rattle.vic_tree.proofs.FirstMasks.{one_kept}
use Rattle.vic_tree.proofs.open_masks.keep.Goals as goal

pub returns-in-Err : goal.returns-in-Err
returns-in-Err c =
    let found = rw c.as_slice.ensures.value at c.in-Err.ensures.position in
    let bound = rw c.as_slice.ensures.value at c.in-Err.ensures.bound in
    let one = one_kept c.args.kept.now.items c.in-Some.mask c.in-Err.index c.requires.kept bound found in
    rw (c.truncate.ensures.items, c.insert.ensures.items, c.in-Some.is) (record { keeps = one.0; kept = one.1 })
