use Rattle.vic_collection.proofs.Words.{sym, ◌≡◌, ◌∙◌, slice_get}
use Rattle.vic_collection.proofs.Elements.{some_value}
use Rattle.vic_collection.proofs.Leading.{rows_known, rows_upto}
use Rattle.vic_collection.proofs.joins.leads_of_rows.Goals as goal
use Rattle.vic_collection.proofs.joins.leads_of_rows.Goals.{then-not-contains_key+in_ok-insert, else-not-contains_key}

pub loop-index-preserved : goal.loop-index-preserved
loop-index-preserved c =
    let rows = c.args.rows.now in
    let i = c.loop-index.index in
    let row = some_value (slice_get rows i) (λ row. c.log-log.result.now ≡ row.log) c.log-log.ensures in
    elim c.if-not-contains_key.branch [
      | then-not-contains_key+in_ok-insert w ↦
          let other = some_value (slice_get rows i) (λ row. w.place.result.now ≡ row.place) w.place.ensures in
          let place : w.place.result.now ≡ row.0.place = cc (row.1, other.1, other.2) in
          rw w.leads-is (rows_upto rows i row.0 row.1 c.loop-index.leads c.loop-index.invariant c.log-log.result row.2 w.insert.new.self w.place.result place w.in_ok-insert.ensures.updates (sym w.if-not-contains_key.true ∙ c.contains_key.ensures))
      | else-not-contains_key w ↦ rw w.leads-is (rows_known rows i row.0 row.1 c.loop-index.leads c.loop-index.invariant c.log-log.result row.2 (sym w.if-not-contains_key.false ∙ c.contains_key.ensures))
    ]
