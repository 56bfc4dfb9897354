use Rattle.vic_log.proofs.Words.{rules, ◌≡◌, ◌∙◌, ap, true, not, arith, common_steps, has, IsUid, entries, listed}
use Rattle.vic_log.proofs.UidSets.{IsIndex-held, IsSetOf-push, IsSetOf-same, has_unless}
use Rattle.vic_log.proofs.log.index_uid.Goals as goal

pub put-requires : goal.put-requires
put-requires c = (c.in-Ok.ensures.index _ c.requires).0

pub returns-then-branch-clause-more : goal.returns-then-branch-clause-more
returns-then-branch-clause-more c =
    IsIndex-held _ c.args.greatest.now c.put.new.self c.put.ensures.set (IsSetOf-push (listed (entries c.args.lines.now)) c.args.uid c.make_room.new.self c.put.new.self (c.in-Ok.ensures.index _ c.requires).1 c.in_ok-put.ensures.more)

pub returns-else-branch-clause-answer : goal.returns-else-branch-clause-answer
returns-else-branch-clause-answer c = grind (arith, common_steps, rules, has_unless)

pub returns-else-branch-clause-same : goal.returns-else-branch-clause-same
returns-else-branch-clause-same c =
    let typed : IsUid c.args.uid = search rules in
    let there : has (listed (entries c.args.lines.now)) c.args.uid ≡ true = has_unless (listed (entries c.args.lines.now)) c.args.uid c.make_room.new.self c.in_ok-put.field-0 (c.in-Ok.ensures.index _ c.requires).1 typed c.in_ok-put.ensures.answer ∙ ap not c.if-branch.false in
    IsIndex-held _ c.args.greatest.now c.put.new.self c.put.ensures.set (IsSetOf-same (listed (entries c.args.lines.now)) c.args.uid c.make_room.new.self c.put.new.self (c.in-Ok.ensures.index _ c.requires).1 there c.in_ok-put.ensures.more)
