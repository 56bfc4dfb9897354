use Rattle.std.proofs.Common.{◌∙◌, ap, ◌++◌}
use Rattle.std.proofs.lemmas.Result.{on_ok_weaker}
use Rattle.vic_text.proofs.Pieces.{then_piece}
use Rattle.vic_object.specs.ObjectText.{reading_object}
use Rattle.vic_object.proofs.text.push_readings.Goals as goal

pub returns : goal.returns
returns c =
    let t = c.args.text.now.items in
    let p1 = c.in_ok-extend_from_slice.ensures.items in
    let p2 = then_piece t _ _ p1 (c.in_ok-push_reading.ensures ∙ ap (λ b. c.extend_from_slice.new.self.items ++ reading_object b c.args.told.now.hidden) c.has_no_open-shows_settled.ensures) in
    let p3 = then_piece t _ _ p2 (c.in_ok-extend_from_slice-2.ensures.items) in
    let p4 = then_piece t _ _ p3 (c.in_ok-push_reading-2.ensures ∙ ap (λ b. c.extend_from_slice-2.new.self.items ++ reading_object b c.args.told.now.deaf) c.has_no_open-shows_settled.ensures) in
    on_ok_weaker c.push_margin.result (λ e. then_piece t _ _ p4 e) (c.push_margin.ensures)
