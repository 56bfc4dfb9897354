use Rattle.vic_collection.proofs.Words.{◌≡◌, arith, map, slice_get}
use Rattle.vic_collection.proofs.Elements.{item_at, some_at}
use Rattle.vic_collection.proofs.Without.{rows_added}
use Rattle.vic_collection.proofs.without_log.add_rows.Goals as goal

pub loop-index-preserved : goal.loop-index-preserved
loop-index-preserved c =
    let rows = c.args.rows.now in
    let i = c.loop-index.index in
    let found = item_at rows i (omega (arith, c.loop-index-test.true, c.len-index-end.ensures)) in
    let place : c.place.result.now ≡ found.0.place = some_at (slice_get rows i) (λ r. c.place.result.now ≡ r.place) found.0 found.1 c.place.ensures in
    rows_added c.args.known.now c.loop-index.known c.add.new.known (map (λ p. p.now) c.args.without.now.items) (map (λ p. p.now) c.loop-index.without.items) (map (λ p. p.now) c.add.new.without.items) rows i found.0 found.1 c.loop-index.invariant (rw (← place) c.in_ok-add.ensures)
