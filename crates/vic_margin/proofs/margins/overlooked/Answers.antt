use Rattle.vic_margin.proofs.Words.{arith, ap, length, ◌≡◌, ◌<◌, ◌∙◌, ◌++◌, ◌∷◌, [], IsPartOf, mirror, margin_of, AreMargins}
use Rattle.std.proofs.lemmas.List.{get_or_default}
use Rattle.vic_log.specs.Order.{entries}
use Rattle.vic_margin.proofs.Places.{map_taken}
use Rattle.vic_margin.proofs.margins.overlooked.Goals as goal

pub part_margins-requires : goal.part_margins-requires
part_margins-requires c = rw c.of.ensures.value at c.in_ok-log_parts.ensures

pub loop-uid-preserved : goal.loop-uid-preserved
loop-uid-preserved c =
    let es = entries c.args.log.now.lines in
    let l = c.loop-uid in
    let margins : AreMargins c.in_ok-margins.margins.parts es c.in_ok-margins.margins.each.items = rw c.in_ok-margins.ensures.log at c.in_ok-margins.margins.margins in
    let own : IsPartOf c.in_ok-margins.margins.parts (mirror c.uid-item.result) c.at.result = rw c.key.ensures.value at c.at.ensures in
    let lt : c.at.result < length c.in_ok-margins.margins.each.items = let within = own.within in let room = margins.room in omega (arith, within, room) in
    let read : c.index.result.now ≡ margin_of es c.uid-item.result = c.index.ensures ∙ (get_or_default c.in_ok-margins.margins.each.items c.at.result c.index.result.now 0 lt ∙ margins.margin c.uid-item.result c.at.result c.key.ensures.is_uid own) in
    c.in_ok-push.ensures.items ∙ (ap (λ xs. xs ++ c.index.result.now ∷ []) l.invariant ∙ map_taken (margin_of es) c.args.uids.now l.uid-index c.uid-item.result c.index.result.now c.loop-uid-test.true c.uid-item.is read)
