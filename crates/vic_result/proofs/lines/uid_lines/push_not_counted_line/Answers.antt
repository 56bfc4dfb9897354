use Rattle.vic_result.proofs.Words.{◌∙◌, ◌++◌, ap, codes, on_ok_weaker}
use Rattle.vic_text.specs.Digits.{uid_text}
use Rattle.vic_result.specs.ResultLines.{ended}
use Rattle.vic_result.proofs.lines.uid_lines.push_not_counted_line.Goals as goal

pub returns : goal.returns
returns c =
    let t = c.args.text.now.items in
    let u = c.args.found.now.uid in
    on_ok_weaker c.push_uid_line.result (λ e. e ∙ ap (λ p. t ++ ended (codes "not counted " ++ uid_text u ++ codes ", belongs to " ++ p)) c.place_at-place.ensures) c.push_uid_line.ensures
