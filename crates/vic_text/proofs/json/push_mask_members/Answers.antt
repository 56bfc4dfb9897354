use Rattle.std.proofs.Common.{◌∙◌, ap, decimal, ◌++◌}
use Rattle.std.proofs.lemmas.Result.{on_ok_weaker}
use Rattle.vic_text.proofs.Pieces.{then_piece, on_ok_items}
use Rattle.vic_text.proofs.json.push_mask_members.Goals as goal

pub returns : goal.returns
returns c =
    let t = c.args.text.now.items in
    let number = c.in_ok-push_decimal.ensures ∙ ap (λ n. c.extend_from_slice.new.self.items ++ decimal n) (c.from.ensures ∙ c.len.ensures.value) in
    let four = then_piece t _ _ (then_piece t _ _ (then_piece t _ _ c.in_ok-extend_from_slice.ensures.items number) c.in_ok-extend_from_slice-2.ensures.items) c.in_ok-push_value.ensures in
    on_ok_weaker c.extend_from_slice-3.result (λ e. then_piece t _ _ four e) (on_ok_items c.extend_from_slice-3.result _ _ c.extend_from_slice-3.ensures.items)
