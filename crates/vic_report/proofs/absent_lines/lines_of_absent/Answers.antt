use Rattle.vic_report.proofs.Words.{◌≡◌, [], ◌∷◌, ◌++◌, ◌-◌, Some, take, ap, refl, arith, length, length-map, All-push, IsRuledOut, map_push, take_more, slice_get, slice_get_read, LogLine, entries}
use Rattle.vic_report.proofs.RuledOut.{listed_end, first_ruling}
use Rattle.vic_report.proofs.absent_lines.lines_of_absent.Goals as goal

pub overflow_sub-end : goal.overflow_sub-end
overflow_sub-end c = (listed_end (entries c.args.log.now.lines) c.in_ok-log_parts.field-0 c.args.absent.now c.loop-uid.uid-index c.uid-item.result c.at.result c.key.result c.index.result.now c.requires.possible (rw c.of.ensures.value at c.in_ok-log_parts.ensures) c.requires.not_open c.loop-uid-test.true c.uid-item.is c.key.ensures.is_uid c.key.ensures.value (rw c.in_ok-indexed.ensures at c.at.ensures) c.index.ensures).1

pub bounds-lines-end : goal.bounds-lines-end
bounds-lines-end c =
    let end = listed_end (entries c.args.log.now.lines) c.in_ok-log_parts.field-0 c.args.absent.now c.loop-uid.uid-index c.uid-item.result c.at.result c.key.result c.index.result.now c.requires.possible (rw c.of.ensures.value at c.in_ok-log_parts.ensures) c.requires.not_open c.loop-uid-test.true c.uid-item.is c.key.ensures.is_uid c.key.ensures.value (rw c.in_ok-indexed.ensures at c.at.ensures) c.index.ensures in
    omega (arith, end.1, end.2, length-map c.args.log.now.lines (λ (l : LogLine). l.item), ap length c.lines-lines.ensures.value)

pub loop-uid-preserved : goal.loop-uid-preserved
loop-uid-preserved c =
    let us = c.args.absent.now in
    let lines = c.lines-lines.result.now in
    let line = c.index-lines-end.result in
    let end = listed_end (entries c.args.log.now.lines) c.in_ok-log_parts.field-0 c.args.absent.now c.loop-uid.uid-index c.uid-item.result c.at.result c.key.result c.index.result.now c.requires.possible (rw c.of.ensures.value at c.in_ok-log_parts.ensures) c.requires.not_open c.loop-uid-test.true c.uid-item.is c.key.ensures.is_uid c.key.ensures.value (rw c.in_ok-indexed.ensures at c.at.ensures) c.index.ensures in
    let there : slice_get lines (c.index.result.now - 1) ≡ Some line = slice_get_read lines (length lines) (c.index.result.now - 1) line refl (omega (arith, end.1, end.2, length-map c.args.log.now.lines (λ (l : LogLine). l.item), ap length c.lines-lines.ensures.value)) c.index-lines-end.is in
    record {
      uids = rw (c.in_ok-push.ensures.items, map_push, c.loop-uid.invariant.uids, take_more us c.loop-uid.uid-index c.uid-item.result c.loop-uid-test.true) (ap (λ v. take c.loop-uid.uid-index us ++ v ∷ []) c.uid-item.is);
      shown = rw c.in_ok-push.ensures.items (All-push (IsRuledOut c.args.log.now.lines) c.loop-uid.shown.items _ c.loop-uid.invariant.shown
          (rw c.number-line.ensures (first_ruling c.args.log.now.lines c.uid-item.result c.index.result.now line c.of.ensures.log.rising end.0 end.1 (rw c.lines-lines.ensures.value at there))));
    }
