use Rattle.vic_collection.proofs.Words.{◌≡◌, ◌∙◌, ◌++◌, ◌∷◌, [], arith, ap, sym, slice_get, take, length, cond, append-nil, Bool}
use Rattle.vic_collection.specs.Collections.{positions_from}
use Rattle.vic_collection.specs.Joins.{is_left_over}
use Rattle.vic_collection.proofs.Elements.{item_at, some_at}
use Rattle.vic_collection.proofs.Telling.{positions_from-more}
use Rattle.vic_collection.proofs.collection.Collection.left_over.Goals as goal
use Rattle.vic_collection.proofs.collection.Collection.left_over.Goals.{then-is_left_over+in_ok-push, else-is_left_over}

pub loop-index-preserved : goal.loop-index-preserved
loop-index-preserved c =
    let view = c.args.self.now in
    let surveys = view.surveys in
    let i = c.loop-index.index in
    let found = item_at surveys i (omega (arith, c.loop-index-test.true, ap length c.surveys-index-end.ensures)) in
    let is = some_at (slice_get surveys i) (λ s. c.is_left_over.result ≡ is_left_over view s) found.0 found.1 c.is_left_over.ensures in
    let more = positions_from-more (is_left_over view) surveys i found.0 found.1 in
    let before = positions_from (is_left_over view) 0 (take i surveys) in
    elim c.if-is_left_over.branch [
      | then-is_left_over+in_ok-push w ↦ ap (λ l. l.items) w.logs-is ∙ (w.in_ok-push.ensures.items ∙ (ap (λ l. l ++ i ∷ []) c.loop-index.invariant ∙ (ap (λ (b : Bool). before ++ cond b (i ∷ []) []) (sym w.if-is_left_over.true ∙ is) ∙ sym more)))
      | else-is_left_over w ↦ ap (λ l. l.items) w.logs-is ∙ (c.loop-index.invariant ∙ (sym (append-nil before) ∙ (ap (λ (b : Bool). before ++ cond b (i ∷ []) []) (sym w.if-is_left_over.false ∙ is) ∙ sym more)))
    ]
