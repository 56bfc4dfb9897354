use Rattle.vic_log.proofs.Words.{◌≡◌, refl, ap, sym, ◌∙◌, false, slice_get, has, row_of}
use Rattle.vic_log.proofs.UidSets.{is_put, IsUidSet-put, held-put, absent_besides, row_is, IsUidSet-beside, held-beside}
use Rattle.vic_log.proofs.uid_set.UidSet.put.Goals as goal

pub returns-in-Some-clause-set : goal.returns-in-Some-clause-set
returns-in-Some-clause-set c =
    IsUidSet-put c.args.self.now _ c.args.uid c.in-Some.free c.requires
    (is_put c.args.self.now c.args.uid c.len.result c.place_of-place.result c.in-Some.free c.number-in-Some.result c.index_mut.result.now c.index-2.result.now c.len.ensures c.place_of-place.ensures.value c.place_of-place.ensures.there c.index_mut.ensures.value c.index-2.ensures c.in-Some.ensures.free c.number-in-Some.ensures.value)

pub returns-in-Some-clause-answer : goal.returns-in-Some-clause-answer
returns-in-Some-clause-answer c =
    let old = c.args.self.now in
    let uid = c.args.uid in
    let row_of_free = row_is old uid c.len.result c.place_of-place.result c.index-2.result.now c.len.ensures c.place_of-place.ensures.value c.place_of-place.ensures.there c.index-2.ensures in
    let row = row_is old uid c.len.result c.place_of-place.result c.index.result.now c.len.ensures c.place_of-place.ensures.value c.place_of-place.ensures.there c.index.ensures in
    let beside = absent_besides old uid c.in-Some.free c.requires (ap (λ r. slice_get r c.in-Some.free) (sym row_of_free) ∙ c.in-Some.ensures.free) in
    let absent : has (row_of old.rows.items uid) uid ≡ false = ap (λ r. has r uid) (sym row) ∙ (ap (has c.index.result.now) (sym c.number.ensures.value) ∙ (sym c.is_in.ensures ∙ c.if-is_in.false)) in
    rw (absent, beside) refl

pub returns-in-Some-clause-more : goal.returns-in-Some-clause-more
returns-in-Some-clause-more c =
    held-put c.args.self.now _ c.args.uid c.in-Some.free
    (is_put c.args.self.now c.args.uid c.len.result c.place_of-place.result c.in-Some.free c.number-in-Some.result c.index_mut.result.now c.index-2.result.now c.len.ensures c.place_of-place.ensures.value c.place_of-place.ensures.there c.index_mut.ensures.value c.index-2.ensures c.in-Some.ensures.free c.number-in-Some.ensures.value)

pub returns-in_ok-insert-in-None-clause-set : goal.returns-in_ok-insert-in-None-clause-set
returns-in_ok-insert-in-None-clause-set c =
    let old = c.args.self.now in
    let row = row_is old c.args.uid c.len.result c.place_of-place.result c.index-2.result.now c.len.ensures c.place_of-place.ensures.value c.place_of-place.ensures.there c.index-2.ensures in
    IsUidSet-beside old (record { rows = old.rows; others = _; lines = old.lines }) c.args.uid c.requires refl (ap (λ r. has r 0) (sym row) ∙ c.in-None.ensures.full) c.in_ok-insert-in-None.ensures.updates.0

pub returns-in_ok-insert-in-None-clause-more : goal.returns-in_ok-insert-in-None-clause-more
returns-in_ok-insert-in-None-clause-more c = λ u pos.
    held-beside c.args.self.now (record { rows = c.args.self.now.rows; others = _; lines = c.args.self.now.lines }) c.args.uid u refl (c.in_ok-insert-in-None.ensures.updates.0 u)
