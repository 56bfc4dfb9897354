use Rattle.vic_result.proofs.Words.{◌≡◌, ◌<◌, ◌∙◌, ap, get_or, length, List, map, subst, sym, true, ℕ}
use Rattle.vic_collection.specs.Collections.{is_unlisted}
use Rattle.vic_collection.specs.declared.unlisted.UnlistedUid.{UnlistedUid}
use Rattle.vic_result.specs.ResultTable.{table_text}
use Rattle.vic_result.proofs.ItemCells.{unlisted_at}
use Rattle.vic_result.proofs.table.table_text.Goals as goal

pub table_with-requires-clause-unlisted : goal.table_with-requires-clause-unlisted
table_with-requires-clause-unlisted c =
    let C = c.args.collection.now in
    subst (λ (xs : List UnlistedUid). (k : ℕ) (d : UnlistedUid) → k < length xs → is_unlisted C (get_or xs k d).uid ≡ true) (sym c.as_slice-unlisted.ensures.value)
    (unlisted_at (λ u. is_unlisted C u ≡ true) c.in_ok-findings.findings.unlisted.items c.in_ok-findings.ensures.unlisted.uids)

pub returns-clause-text : goal.returns-clause-text
returns-clause-text c =
    let C = c.args.collection.now in
    let f = c.in_ok-findings.findings in
    (map (λ x. x.uid) f.unlisted.items, c.in_ok-findings.ensures.unlisted.uids, c.in_ok-text.ensures ∙ ap (λ (xs : List UnlistedUid). table_text C (map (λ x. x.uid) xs)) c.as_slice-unlisted.ensures.value)
