use Rattle.std.proofs.Common.{◌∙◌, ap, ◌++◌}
use Rattle.std.proofs.lemmas.Result.{on_ok_weaker}
use Rattle.vic_text.proofs.Pieces.{then_piece}
use Rattle.vic_object.specs.ObjectText.{certain_object}
use Rattle.vic_object.proofs.text.push_field.Goals as goal

pub returns : goal.returns
returns c =
    let t = c.args.text.now.items in
    let p1 = c.in_ok-extend_from_slice.ensures.items in
    let p2 = then_piece t _ _ p1 (c.in_ok-push_certain.ensures ∙ ap (λ us. c.extend_from_slice.new.self.items ++ certain_object us) c.deref.ensures.value) in
    let p3 = then_piece t _ _ p2 (c.in_ok-extend_from_slice-2.ensures.items) in
    on_ok_weaker c.push_open.result (λ e. then_piece t _ _ p3 e) (c.push_open.ensures)
