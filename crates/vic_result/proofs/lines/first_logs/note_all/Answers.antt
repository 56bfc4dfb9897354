use Rattle.vic_result.proofs.Words.{◌≡◌, ◌∙◌, ◌+◌, ◌++◌, ◌∷◌, [], Some, ap, cond, sym, take, take_more}
use Rattle.std.specs.BTreeMap.{get}
use Rattle.std.specs.Ordering.{nat_cmp}
use Rattle.vic_frame.specs.Uids.{has}
use Rattle.vic_result.proofs.FirstLogs.{noted_more}
use Rattle.vic_result.proofs.lines.first_logs.note_all.Goals as goal

pub loop-uid-preserved : goal.loop-uid-preserved
loop-uid-preserved c = λ u.
    let us = c.args.uids.now in
    let i = c.loop-uid.uid-index in
    let x = c.uid-item.result in
    let old = get nat_cmp c.args.logs.now u in
    let grown : take (i + 1) us ≡ take i us ++ x ∷ [] = take_more us i x c.loop-uid-test.true ∙ ap (λ v. take i us ++ v ∷ []) (sym c.uid-item.is) in
    noted_more c.args.log x (take i us) u old (get nat_cmp c.loop-uid.logs u) (get nat_cmp c.insert.new.self u) (c.in_ok-insert.ensures.updates.0 u) (c.loop-uid.invariant u) ∙ ap (λ vs. cond (has vs u) (Some c.args.log) old) (sym grown)
