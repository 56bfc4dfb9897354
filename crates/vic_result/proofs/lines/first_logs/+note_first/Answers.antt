use Rattle.vic_result.proofs.Words.{◌≡◌, ◌∙◌, ◌+◌, ◌++◌, Some, ap, arith, cond, on_ok_weaker}
use Rattle.std.proofs.lemmas.List.{take-append-drop}
use Rattle.std.specs.BTreeMap.{get}
use Rattle.std.specs.Ordering.{nat_cmp}
use Rattle.vic_frame.specs.Uids.{has}
use Rattle.vic_tree.specs.Ranges.{is_open_in}
use Rattle.vic_result.specs.inner.FirstLogs.{first_open}
use Rattle.vic_result.proofs.FirstLogs.{left_behind, left_in_front, noted_alone, noted_both}
use Rattle.vic_result.proofs.lines.first_logs.+note_first.Goals as goal

pub returns-then-surveys-lt2 : goal.returns-then-surveys-lt2
returns-then-surveys-lt2 t c =
    let us = c.args.uids.items in
    on_ok_weaker c.note_all.result
    (λ noted u is.
    let old = get nat_cmp c.args.logs.now u in
    noted u ∙ (ap (λ vs. cond (has vs u) (Some c.args.from) old) c.deref.ensures.value ∙ noted_alone u c.args.from c.args.surveys.now us old c.if-surveys-lt2.true (c.requires.left u is)))
    c.note_all.ensures

pub note_first-requires : goal.note_first-requires
note_first-requires t c =
    let front = c.split_at.result.0.now in
    let set = c.in_ok-open_set.field-0 in
    (omega arith, (omega arith, λ u is h. left_in_front u front c.args.uids.items c.in_ok-here.here.items (is_open_in set u) (c.in_ok-open_set.ensures u is) (c.in_ok-here.ensures.inside u) h))

pub note_first-requires-2 : goal.note_first-requires-2
note_first-requires-2 t c =
    let surveys = c.args.surveys.now in
    let front = c.split_at.result.0.now in
    let back = c.split_at.result.1.now in
    let set = c.in_ok-open_set.field-0 in
    let whole : front ++ back ≡ surveys = rw (c.split_at.ensures.front, c.split_at.ensures.back) (take-append-drop _ surveys) in
    let left = rw (← whole) at c.requires.left in
    (omega arith, (omega arith, λ u is h. left_behind u front back c.args.uids.items c.in_ok-here.later.items (is_open_in set u) (c.in_ok-open_set.ensures u is) (c.in_ok-here.ensures.outside u) (left u is) h))

pub returns : goal.returns
returns t c =
    let surveys = c.args.surveys.now in
    let front = c.split_at.result.0.now in
    let back = c.split_at.result.1.now in
    let us = c.args.uids.items in
    let set = c.in_ok-open_set.field-0 in
    let whole : front ++ back ≡ surveys = rw (c.split_at.ensures.front, c.split_at.ensures.back) (take-append-drop _ surveys) in
    on_ok_weaker c.note_first-2.result
    (λ later u is.
    let old = get nat_cmp c.args.logs.now u in
    noted_both u c.args.from front back us c.in_ok-here.here.items c.in_ok-here.later.items (is_open_in set u) old (get nat_cmp c.note_first.new.logs u) (get nat_cmp c.note_first-2.new.logs u)
    (c.in_ok-open_set.ensures u is) (c.in_ok-here.ensures.inside u) (c.in_ok-here.ensures.outside u) (c.in_ok-note_first.ensures u is) (later u is)
    ∙ ap (λ ss. cond (has us u) (Some (c.args.from + first_open ss u)) old) whole)
    c.note_first-2.ensures
