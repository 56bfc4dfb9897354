use Rattle.std.proofs.Common.{codes, decimal, ◌++◌}
use Rattle.std.proofs.lemmas.Result.{on_ok_weaker}
use Rattle.vic_text.proofs.Pieces.{then_piece}
use Rattle.vic_object.specs.Finding.{shown_members}
use Rattle.vic_object.proofs.Joins.{three_more}
use Rattle.vic_object.proofs.finding.push_absent.Goals as goal

pub returns : goal.returns
returns c =
    let t = c.args.text.now.items in
    let opening = codes "{\"kind\":\"absent\"," ++ shown_members c.args.shown.now in
    let two = then_piece t _ _ c.in_ok-extend_from_slice.ensures.items c.in_ok-push_shown.ensures in
    on_ok_weaker c.push_last_number.result (λ e. three_more t opening (codes ",\"overlooked\":") (decimal c.args.overlooked) (codes "}") (then_piece t _ _ two e)) c.push_last_number.ensures
