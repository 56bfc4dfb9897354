use Rattle.vic_result.proofs.Words.{◌≡◌, ◌∙◌, ◌++◌, ap, on_ok_weaker, sym}
use Rattle.vic_result.specs.LeastMargin.{least_margin}
use Rattle.vic_result.specs.ResultObject.{margin_found, margin_member}
use Rattle.vic_result.proofs.object.push_margin_member.Goals as goal

pub returns-in-Complete : goal.returns-in-Complete
returns-in-Complete c =
    let C = c.args.collection.now in
    let t = c.args.text.now.items in
    let least : margin_found c.least_margin.result ≡ margin_member C c.args.answer.now = ap margin_found (c.least_margin.ensures ∙ ap (least_margin 0) c.surveys.ensures) ∙ ap (margin_member C) (sym c.in-Complete.is) in
    on_ok_weaker c.push_found_margin.result (λ e. e ∙ ap (λ s. t ++ s) least) c.push_found_margin.ensures
