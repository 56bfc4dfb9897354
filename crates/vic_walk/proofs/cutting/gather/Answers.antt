use Rattle.std.proofs.Common.{length-append}
use Rattle.vic_log.specs.Order.{entries}
use Rattle.vic_log.specs.declared.entry.LogLine.{LogLine}
use Rattle.vic_walk.proofs.Words.{◌≡◌, ◌∷◌, [], Some, arith, length, length-map, refl, slice_get}
use Rattle.vic_walk.proofs.CutLaws.{more_again, placed_here, placed_more, placed_none}
use Rattle.vic_walk.proofs.cutting.gather.Goals as goal

pub loop-index-init : goal.loop-index-init
loop-index-init c = record {
  cursor = c.first-cursor.ensures (entries c.args.lines.now);
  count = rw c.in_ok-steps.ensures.items refl;
  placed = rw c.in_ok-steps.ensures.items (placed_none _ _);
}

pub loop-index-preserved : goal.loop-index-preserved
loop-index-preserved c =
    let es = entries c.args.lines.now in
    let l = c.loop-index in
    let i = l.invariant in
    let masked = c.in_ok-from.ensures in
    let named = c.in_ok-own.ensures in
    let here : slice_get es l.index ≡ Some c.entry-entry.result = c.entry-entry.ensures.here in
    let log = c.entry-entry.ensures.log in
    let pushed = c.in_ok-push.ensures.items in
    let more = more_again _ _ _ masked.more named.more in
    let placed = placed_here es l.index _ _ _ (record { from = c.in_ok-from.from; to = c.in_ok-from.to; own = c.in_ok-own.own }) here masked.to (masked.mask es l.index log.valid i.cursor) named.more named.key named.named c.push_named.ensures.heard in
    record {
      cursor = c.advance.ensures es l.index log.order here i.cursor;
      count = rw pushed (omega (arith, length-append c.loop-index.steps.items (record { from = c.in_ok-from.from; to = c.in_ok-from.to; own = c.in_ok-own.own } ∷ []), i.count));
      placed = rw pushed (placed_more es _ _ _ _ more i.placed (rw i.count placed));
    }

end : (c : goal.After-loop-index) → length c.loop-index.steps.items ≡ c.list_start-list.result
end c = omega (arith, c.loop-index.invariant.count, c.loop-index-test.false, c.loop-index.auto.index-end)

pub returns-clause-list : goal.returns-clause-list
returns-clause-list c = rw (end c) c.list_start-list.ensures.list

pub returns-clause-within : goal.returns-clause-within
returns-clause-within c = omega (arith, end c, c.list_start-list.ensures.within, length-map c.args.lines.now (λ (x : LogLine). x.item))
