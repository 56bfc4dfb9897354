use Rattle.vic_collection.proofs.Words.{◌≡◌, ◌∙◌, get_or}
use Rattle.std.proofs.lemmas.List.{get_or_default}
use Rattle.vic_report.specs.declared.shown.ShownUid.{ShownUid}
use Rattle.vic_collection.proofs.unlisted.line_of.Goals as goal

pub returns : goal.returns
returns c =
    let shown = c.args.shown.now in
    let r = c.index_of.result in
    let one : ShownUid = get_or shown r c.index-shown-index_of.result in
    let named : ShownUid = record { uid = c.args.uid; line = one.line } in
    let same : one.uid ≡ c.args.uid = c.index_of.ensures.there c.index-shown-index_of.result in
    let is : one ≡ named = λ i. record { uid = same i; line = one.line } in
    (r, c.index_of.ensures.within, get_or_default shown r named c.index-shown-index_of.result c.index_of.ensures.within ∙ is)
