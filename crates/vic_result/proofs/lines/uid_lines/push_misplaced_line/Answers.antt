use Rattle.vic_result.proofs.Words.{◌∙◌, ◌++◌, ap, codes, on_ok_weaker}
use Rattle.vic_text.proofs.Pieces.{on_ok_items}
use Rattle.vic_text.specs.Digits.{uid_text}
use Rattle.vic_result.specs.ResultLines.{first_certain, place_at}
use Rattle.vic_result.proofs.FindingLines.{line_of_three}
use Rattle.vic_result.proofs.lines.uid_lines.push_misplaced_line.Goals as goal

pub returns : goal.returns
returns c =
    let C = c.args.collection.now in
    let t = c.args.text.now.items in
    let u = c.args.found.now.uid in
    let name = c.in_ok-push_words.ensures ∙ ap (λ n. c.push_words_uid.new.text.items ++ (codes " in " ++ n)) c.first_certain.ensures in
    let place = c.in_ok-push_words-2.ensures ∙ ap (λ p. c.push_words.new.text.items ++ (codes ", belongs to " ++ p)) c.place_at.ensures in
    on_ok_weaker c.extend_from_slice.result
    (λ e. line_of_three t (codes "misplaced ") (uid_text u) (codes " in ") (first_certain C u) (codes ", belongs to ") (place_at C c.args.found.now.item) c.in_ok-push_words_uid.ensures name place e)
    (on_ok_items c.extend_from_slice.result _ _ c.extend_from_slice.ensures.items)
