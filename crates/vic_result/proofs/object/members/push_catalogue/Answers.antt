use Rattle.vic_result.proofs.Words.{◌≡◌, ◌∙◌, ◌++◌, ap, ap₂, codes, map, on_ok_weaker, then_piece}
use Rattle.vic_log.specs.Lines.{ends_with, lf}
use Rattle.vic_table.specs.Columns.{separator_byte}
use Rattle.vic_collection.specs.States.{state_of}
use Rattle.vic_text.specs.Json.{json_bool}
use Rattle.vic_result.specs.ResultObject.{cells_json, counts_json}
use Rattle.vic_result.proofs.object.members.push_catalogue.Goals as goal

pub returns : goal.returns
returns c =
    let t = c.args.text.now.items in
    let C = c.args.collection.now in
    let counts = then_piece t (codes ",\"counts\":") (counts_json (map (state_of C) C.catalogue.items) c.args.unlisted) c.in_ok-extend_from_slice.ensures.items (c.in_ok-push_counts.ensures ∙ ap (λ states. c.extend_from_slice.new.self.items ++ counts_json states c.args.unlisted) c.requires) in
    let separator = c.byte-separator.ensures ∙ (ap (λ k. separator_byte k.separator) c.columns.ensures ∙ ap (λ k. separator_byte k.columns.separator) c.catalogue-catalogue.ensures) in
    let head = c.head.ensures ∙ ap (λ k. k.head) c.catalogue-catalogue.ensures in
    let cells : cells_json c.byte-separator.result c.head.result.now ≡ cells_json (separator_byte C.catalogue.columns.separator) C.catalogue.head = ap₂ cells_json separator head in
    let columns = then_piece t _ (cells_json (separator_byte C.catalogue.columns.separator) C.catalogue.head) (then_piece t _ (codes ",\"columns\":") counts c.in_ok-extend_from_slice-2.ensures.items) (c.in_ok-push_cells_of.ensures ∙ ap (λ s. c.extend_from_slice-2.new.self.items ++ s) cells) in
    let ended = then_piece t _ (codes ",\"ended\":") columns c.in_ok-extend_from_slice-3.ensures.items in
    let lf_is = c.ends_by_lf.ensures ∙ ap (λ k. ends_with lf k.text) c.catalogue-catalogue.ensures in
    on_ok_weaker c.push_json.result (λ e. then_piece t _ (json_bool (ends_with lf C.catalogue.text)) ended (e ∙ ap (λ b. c.extend_from_slice-3.new.self.items ++ json_bool b) lf_is)) c.push_json.ensures
