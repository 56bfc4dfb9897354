use Rattle.vic_operands.proofs.GatheringLaws.{named_more, unnamed_before, wrong_before}
use Rattle.vic_operands.specs.Kinds.{kind_of}
use Rattle.vic_operands.proofs.operands.state_with.Goals as goal

pub returns-in-Unnamed : goal.returns-in-Unnamed
returns-in-Unnamed c files h name = unnamed_before files _ (rw c.in-Unnamed.is at h)

pub returns-in-Refused : goal.returns-in-Refused
returns-in-Refused c files h name =
    let was = rw c.in-Refused.is at h in
    (named_more files _ was.0 name, wrong_before kind_of files _ c.in-Refused.refusal was.1)
