use Rattle.vic_collection.proofs.Words.{◌≡◌, ◌∙◌, ◌++◌, ◌∷◌, [], arith, ap, sym, subst, cond, has, length, append_assoc, ◌+◌}
use Rattle.std.specs.List.{filter}
use Rattle.std.specs.List.Sorted.{IsStrictlyIncreasing}
use Rattle.std.proofs.lemmas.List.Kept.{IsStrictlyIncreasing-filter}
use Rattle.std.proofs.lemmas.List.{take-append-drop}
use Rattle.std.proofs.lemmas.Result.{on_ok_weaker}
use Rattle.vic_tree.specs.Ranges.{is_open_in}
use Rattle.vic_collection.specs.Collections.{logs_in}
use Rattle.vic_collection.proofs.Halves.{noted, noted_both, noted_inside, noted_one}
use Rattle.vic_collection.proofs.undecided_logs.+note.Goals as goal

pub note_each-requires : goal.note_each-requires
note_each-requires t c =
    let items : c.deref.result.now ≡ filter (is_open_in c.in_ok-union.field-0) c.args.uids.now = c.deref.ensures.value ∙ c.in_ok-inside.ensures in
    subst IsStrictlyIncreasing (sym items) (IsStrictlyIncreasing-filter (is_open_in c.in_ok-union.field-0) c.args.uids.now c.requires.rising)

pub returns-then-sets-lt2 : goal.returns-then-sets-lt2
returns-then-sets-lt2 t c =
    let p = is_open_in c.in_ok-union.field-0 in
    let items : c.deref.result.now ≡ filter p c.args.uids.now = c.deref.ensures.value ∙ c.in_ok-inside.ensures in
    on_ok_weaker c.note_each.result
    (λ added u is. added u ∙ ap (λ l. logs_in c.args.rows.now.items u ++ l) (ap (λ us. cond (has us u) (c.args.from ∷ []) []) items ∙ noted_one c.args.sets.now c.args.from c.args.uids.now p u c.if-sets-lt2.true (c.in_ok-union.ensures u is)))
    c.note_each.ensures

pub note-requires : goal.note-requires
note-requires t c =
    let p = is_open_in c.in_ok-union.field-0 in
    let items : c.deref-2.result.now ≡ filter p c.args.uids.now = c.deref-2.ensures.value ∙ c.in_ok-inside.ensures in
    (omega arith, (omega arith, subst IsStrictlyIncreasing (sym items) (IsStrictlyIncreasing-filter p c.args.uids.now c.requires.rising)))

pub note-requires-2 : goal.note-requires-2
note-requires-2 t c =
    let p = is_open_in c.in_ok-union.field-0 in
    let items : c.deref-3.result.now ≡ filter p c.args.uids.now = c.deref-3.ensures.value ∙ c.in_ok-inside.ensures in
    (omega arith, (omega arith, subst IsStrictlyIncreasing (sym items) (IsStrictlyIncreasing-filter p c.args.uids.now c.requires.rising)))

pub returns : goal.returns
returns t c =
    let p = is_open_in c.in_ok-union.field-0 in
    let from = c.args.from in
    let us = c.args.uids.now in
    let front = c.split_at.result.0.now in
    let back = c.split_at.result.1.now in
    let sets : front ++ back ≡ c.args.sets.now = rw (c.split_at.ensures.front, c.split_at.ensures.back) (take-append-drop _ c.args.sets.now) in
    let one : c.deref-2.result.now ≡ filter p us = c.deref-2.ensures.value ∙ c.in_ok-inside.ensures in
    let other : c.deref-3.result.now ≡ filter p us = c.deref-3.ensures.value ∙ c.in_ok-inside.ensures in
    on_ok_weaker c.note-2.result
    (λ added u is.
    let old = logs_in c.args.rows.now.items u in
    let first : logs_in c.note.new.rows.items u ≡ old ++ noted front from (filter p us) u = c.in_ok-note.ensures u is ∙ ap (λ vs. old ++ noted front from vs u) one in
    let second : logs_in c.note-2.new.rows.items u ≡ logs_in c.note.new.rows.items u ++ noted back (from + length front) (filter p us) u = added u is ∙ ap (λ vs. logs_in c.note.new.rows.items u ++ noted back (from + length front) vs u) other in
    second ∙ (ap (λ l. l ++ noted back (from + length front) (filter p us) u) first ∙ (append_assoc old (noted front from (filter p us) u) (noted back (from + length front) (filter p us) u)
    ∙ ap (λ l. old ++ l) (noted_both front back from (filter p us) u ∙ (ap (λ ss. noted ss from (filter p us) u) sets ∙ noted_inside c.args.sets.now from us p u (c.in_ok-union.ensures u is))))))
    c.note-2.ensures
