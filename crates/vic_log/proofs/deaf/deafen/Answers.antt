use Rattle.vic_log.proofs.Words.{◌≡◌, ◌∙◌, ◌-◌, ap, sym, refl, add-one, arith, length, length-map, Some, List, [], ◌∷◌, slice_get, slice_get_read, drop, suc, LogLine, Entry, entries}
use Rattle.vic_log.specs.Deaf.{answers, deaf_entries, deaf_entry}
use Rattle.vic_log.proofs.DeafLines.{answers_at_rest, deaf_at, item_there, length-deaf, replaced_all, replaced_line, same_numbers}
use Rattle.vic_log.proofs.deaf.deafen.Goals as goal

pub overflow_sub-behind : goal.overflow_sub-behind
overflow_sub-behind c =
    let es : List Entry = entries c.args.lines.now in
    let lines = c.loop-index.lines in
    let i = c.loop-index.index in
    let l = c.index-lines-index.result in
    let here : slice_get lines i ≡ Some l = slice_get_read lines (length lines) i l refl (omega arith) c.index-lines-index.is in
    let was : slice_get es i ≡ Some l.item = item_there (deaf_entries es) es lines i l (length-deaf es) c.loop-index.invariant.items here in
    let count : c.answer_count-behind.result ≡ answers (l.item ∷ []) = c.answer_count-behind.ensures ∙ ap (λ e. answers (e ∷ [])) c.item.ensures in
    omega (arith, answers_at_rest es i l.item was, c.loop-index.invariant.behind_is, count)

pub loop-index-preserved : goal.loop-index-preserved
loop-index-preserved c =
    let es : List Entry = entries c.args.lines.now in
    let lines = c.loop-index.lines in
    let i = c.loop-index.index in
    let l = c.index-lines-index.result in
    let m = c.deaf_line.result in
    let here : slice_get lines i ≡ Some l = slice_get_read lines (length lines) i l refl (omega arith) c.index-lines-index.is in
    let was : slice_get es i ≡ Some l.item = item_there (deaf_entries es) es lines i l (length-deaf es) c.loop-index.invariant.items here in
    let count : c.answer_count-behind.result ≡ answers (l.item ∷ []) = c.answer_count-behind.ensures ∙ ap (λ e. answers (e ∷ [])) c.item.ensures in
    let behind : c.loop-index.behind - c.answer_count-behind.result ≡ answers (drop (suc i) es) = omega (arith, answers_at_rest es i l.item was, c.loop-index.invariant.behind_is, count) in
    let new : slice_get (deaf_entries es) i ≡ Some m.item = deaf_at es i l.item was ∙ ap Some (sym (c.deaf_line.ensures.item ∙ ap (deaf_entry l.item) behind)) in
    record {
      items = rw add-one (replaced_line (deaf_entries es) es lines i m (length-deaf es) c.loop-index.invariant.items new);
      same = same_numbers lines i l m here c.deaf_line.ensures.number ∙ c.loop-index.invariant.same;
      behind_is = rw add-one behind;
    }

pub returns-clause-items : goal.returns-clause-items
returns-clause-items c =
    let es : List Entry = entries c.args.lines.now in
    let many : length es ≡ length c.args.lines.now = length-map c.args.lines.now (λ (l : LogLine). l.item) in
    c.loop-index.invariant.items ∙ replaced_all (deaf_entries es) es c.loop-index.index (length-deaf es) (omega arith)
