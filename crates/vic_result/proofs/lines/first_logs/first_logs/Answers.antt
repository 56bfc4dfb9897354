use Rattle.vic_result.proofs.Words.{◌≡◌, ◌∙◌, ◌+◌, Some, Bool, ap, cond, get_or, sym, true}
use Rattle.std.specs.BTreeMap.{get}
use Rattle.std.specs.Ordering.{nat_cmp}
use Rattle.vic_frame.specs.Uids.{has}
use Rattle.vic_collection.specs.declared.found_items.FoundItem.{FoundItem}
use Rattle.vic_result.specs.inner.FirstLogs.{first_open, is_open_somewhere}
use Rattle.vic_result.proofs.FirstLogs.{doubtful_first, doubtful_left}
use Rattle.vic_result.proofs.ItemCells.{uid_among}
use Rattle.vic_result.proofs.lines.first_logs.first_logs.Goals as goal

pub note_first-requires-clause-left : goal.note_first-requires-clause-left
note_first-requires-clause-left c = λ u is h.
    let w = (c.requires.uids.members u).0 (ap (λ us. has us u) (sym c.in_ok-uids.ensures) ∙ h) in
    ap (λ ss. is_open_somewhere ss u) c.surveys.ensures ∙ doubtful_left c.args.collection.now w.0 u w.2 w.3

pub returns : goal.returns
returns c = λ k d lt is.
    let C = c.args.collection.now in
    let doubtful = c.args.doubtful.now in
    let u = (get_or doubtful k d).uid in
    let among : has c.in_ok-uids.uids.items u ≡ true = ap (λ us. has us u) c.in_ok-uids.ensures ∙ uid_among (λ (f : FoundItem). f.uid) doubtful k d lt in
    let w = c.requires.items k d lt in
    let noted : get nat_cmp c.note_first.new.logs u ≡ Some (0 + first_open C.surveys u) =
    c.in_ok-note_first.ensures u is ∙ (ap (λ (b : Bool). cond b (Some (0 + first_open c.surveys.result.now u)) (get nat_cmp c.new-logs.result u)) among ∙ ap (λ ss. Some (0 + first_open ss u)) c.surveys.ensures) in
    doubtful_first C w.0 u c.note_first.new.logs w.2 w.3 noted
