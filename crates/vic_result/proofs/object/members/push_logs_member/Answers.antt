use Rattle.vic_result.proofs.Words.{codes, then_piece}
use Rattle.vic_text.specs.Json.{comma_joined}
use Rattle.vic_result.proofs.object.members.push_logs_member.Goals as goal

pub returns : goal.returns
returns c =
    let t = c.args.text.now.items in
    let logs = c.in_ok-push_log_list.ensures in
    (logs.0, logs.1, then_piece t _ (codes "]}") (then_piece t (codes ",\"logs\":[") (comma_joined logs.0) c.in_ok-extend_from_slice.ensures.items logs.2) c.in_ok-extend_from_slice-2.ensures.items)
