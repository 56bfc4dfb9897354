use Rattle.vic_log.proofs.Words.{◌≡◌, ◌∙◌, ap, sym, refl, add-one, arith, length, length-map, Some, List, slice_get, slice_get_read, LogLine, Entry, entries}
use Rattle.vic_log.specs.Deaf.{hidden_entries}
use Rattle.vic_log.proofs.DeafLines.{hidden_at, item_there, length-hidden, replaced_all, replaced_line, same_numbers}
use Rattle.vic_log.proofs.deaf.hide.Goals as goal

pub loop-index-preserved : goal.loop-index-preserved
loop-index-preserved c =
    let es : List Entry = entries c.args.lines.now in
    let lines = c.loop-index.lines in
    let i = c.loop-index.index in
    let l = c.index-lines-index.result in
    let m = c.hidden_line.result in
    let here : slice_get lines i ≡ Some l = slice_get_read lines (length lines) i l refl (omega arith) c.index-lines-index.is in
    let was : slice_get es i ≡ Some l.item = item_there (hidden_entries es) es lines i l (length-hidden es) c.loop-index.invariant.items here in
    let new : slice_get (hidden_entries es) i ≡ Some m.item = hidden_at es i l.item was ∙ ap Some (sym c.hidden_line.ensures.item) in
    record {
      items = rw add-one (replaced_line (hidden_entries es) es lines i m (length-hidden es) c.loop-index.invariant.items new);
      same = same_numbers lines i l m here c.hidden_line.ensures.number ∙ c.loop-index.invariant.same;
    }

pub returns-clause-items : goal.returns-clause-items
returns-clause-items c =
    let es : List Entry = entries c.args.lines.now in
    let many : length es ≡ length c.args.lines.now = length-map c.args.lines.now (λ (l : LogLine). l.item) in
    c.loop-index.invariant.items ∙ replaced_all (hidden_entries es) es c.loop-index.index (length-hidden es) (omega arith)
