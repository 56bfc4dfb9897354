use Rattle.vic_log.proofs.Words.{◌≡◌, ◌∙◌, ap, slice_get-map, slice_get-get_or, option_map, text_of, common_steps, rules, Some, [], ◌∷◌, ◌++◌, refl, sym, arith, LogLine, lf, entries, entry_text, lines_text}
use Rattle.vic_log.proofs.Spelled.{valid_at}
use Rattle.vic_log.proofs.Told.{line_next, none_left, waits_none, waits_more}
use Rattle.vic_log.proofs.write.write_log.Goals as goal

pub put_entry-requires : goal.put_entry-requires
put_entry-requires g c =
    let lines = c.lines-lines.result.now in
    let i = c.loop-line.line-index in
    let at = slice_get-map (λ (l : LogLine). l.item) lines i ∙ ap (option_map (λ (l : LogLine). l.item)) (slice_get-get_or lines i c.line-item.result c.loop-line-test.true) in
    rw (c.item.ensures, c.line-item.is) (valid_at (entries lines) c.lines-lines.ensures.log.valid i _ at)

pub loop-line-init : goal.loop-line-init
loop-line-init g c =
    let whole : c.with_header-piece.result.items ++ lines_text c.lines-lines.result.now ≡ text_of c.args.log.now = grind (arith, common_steps) in
    record { untouched = λ _. refl; told = waits_none _ _ _ _ whole; written = waits_none _ _ _ _ whole }

pub loop-line-preserved : goal.loop-line-preserved
loop-line-preserved g c =
    let lines = c.lines-lines.result.now in
    let next = line_next (λ (l : LogLine). entry_text l.item) lines_text (λ l ls. refl) lines c.loop-line.line-index c.line-item.result c.loop-line-test.true c.line-item.is in
    record {
      untouched = search rules;
      told = waits_more _ _ _ _ _ (entry_text c.line-item.result.item ++ lf ∷ []) _ _ _ c.loop-line.invariant.told (rw (sym c.item.ensures) c.in_ok-put_entry.ensures.told) next;
      written = waits_more _ _ _ _ _ (entry_text c.line-item.result.item ++ lf ∷ []) _ _ _ c.loop-line.invariant.written (rw (sym c.item.ensures) c.in_ok-put_entry.ensures.written) next;
    }

pub returns-clause-all : goal.returns-clause-all
returns-clause-all g c = c.loop-line.invariant.told.all (none_left lines_text c.lines-lines.result.now c.loop-line.line-index refl (omega arith)) _ c.in_ok-write_last.ensures.all

pub returns-clause-written : goal.returns-clause-written
returns-clause-written g c = c.loop-line.invariant.written.all (none_left lines_text c.lines-lines.result.now c.loop-line.line-index refl (omega arith)) (Some _) c.in_ok-write_last.ensures.written
