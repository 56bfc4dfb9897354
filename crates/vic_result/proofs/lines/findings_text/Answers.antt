use Rattle.vic_result.proofs.Words.{◌≡◌, ◌∙◌, ◌++◌, [], ℕ, ap, ap₂, flat_map, List, map, subst, sym, then_piece}
use Rattle.vic_collection.specs.Findings.{AreFoundIn}
use Rattle.vic_collection.specs.Joins.{is_left_over, places_without_log}
use Rattle.vic_collection.specs.declared.found_items.FoundItem.{FoundItem}
use Rattle.vic_collection.specs.declared.state.State.TheVariants.{Doubtful}
use Rattle.vic_collection.specs.declared.unlisted.UnlistedUid.{UnlistedUid}
use Rattle.vic_result.specs.NamesAt.{names_at}
use Rattle.vic_result.specs.ResultLines.{absent_lines, doubtful_lines, left_over_lines, misplaced_lines, not_counted_lines, returned_lines, unlisted_lines, without_log_lines}
use Rattle.vic_result.specs.ResultTable.{names_where}
use Rattle.vic_result.proofs.NamedLogs.{names_at-positions}
use Rattle.vic_result.proofs.lines.findings_text.Goals as goal

pub push_doubtful-requires : goal.push_doubtful-requires
push_doubtful-requires c = subst (AreFoundIn c.args.collection.now Doubtful) (sym c.deref-3.ensures.value) c.requires.doubtful

pub returns : goal.returns
returns c =
    let C = c.args.collection.now in
    let f = c.args.findings.now in
    let left = c.in_ok-push_unsettled.ensures in
    let absent : c.push_absent.new.text.items ≡ [] ++ flat_map absent_lines f.absent.items =
    c.in_ok-push_absent.ensures ∙ ap₂ (λ (s : List ℕ) (xs : List FoundItem). s ++ flat_map absent_lines xs) c.new-text.ensures.items c.deref.ensures.value in
    let unlisted = then_piece [] _ (flat_map (unlisted_lines C) f.unlisted.items) absent (c.in_ok-push_unlisted.ensures ∙ ap (λ (xs : List UnlistedUid). c.push_absent.new.text.items ++ flat_map (unlisted_lines C) xs) c.deref-2.ensures.value) in
    let unsettled = then_piece [] _ left.0 unlisted left.2 in
    let doubtful = then_piece [] _ (flat_map (doubtful_lines C) f.doubtful.items) unsettled (c.in_ok-push_doubtful.ensures ∙ ap (λ (xs : List FoundItem). c.push_unsettled.new.text.items ++ flat_map (doubtful_lines C) xs) c.deref-3.ensures.value) in
    let misplaced = then_piece [] _ (flat_map (misplaced_lines C) f.misplaced.items) doubtful (c.in_ok-push_misplaced.ensures ∙ ap (λ (xs : List FoundItem). c.push_doubtful.new.text.items ++ flat_map (misplaced_lines C) xs) c.deref-4.ensures.value) in
    let returned = then_piece [] _ (flat_map (returned_lines C) f.returned.items) misplaced (c.in_ok-push_returned.ensures ∙ ap (λ (xs : List FoundItem). c.push_misplaced.new.text.items ++ flat_map (returned_lines C) xs) c.deref-5.ensures.value) in
    let not_counted = then_piece [] _ (flat_map (not_counted_lines C) f.not_counted.items) returned (c.in_ok-push_not_counted.ensures ∙ ap (λ (xs : List FoundItem). c.push_returned.new.text.items ++ flat_map (not_counted_lines C) xs) c.deref-6.ensures.value) in
    let places = ap (map (λ place. place.now)) c.deref-7.ensures.value ∙ c.requires.without_log in
    let without = then_piece [] _ (flat_map without_log_lines (places_without_log C)) not_counted (c.in_ok-push_without_log.ensures ∙ ap (λ ps. c.push_not_counted.new.text.items ++ flat_map without_log_lines ps) places) in
    let names : names_at c.surveys.result.now c.deref-8.result.now ≡ names_where (is_left_over C) C.surveys =
    ap₂ names_at c.surveys.ensures (c.deref-8.ensures.value ∙ c.requires.left_over) ∙ names_at-positions (is_left_over C) C.surveys in
    let over = then_piece [] _ (flat_map left_over_lines (names_where (is_left_over C) C.surveys)) without (c.in_ok-push_left_over.ensures ∙ ap (λ ns. c.push_without_log.new.text.items ++ flat_map left_over_lines ns) names) in
    (left.0, left.1, over)
