use Rattle.std.proofs.Common.{◌∙◌}
use Rattle.vic_operands.proofs.GatheringLaws.{named_more, wrong_here}
use Rattle.vic_operands.specs.Kinds.{kind_of}
use Rattle.vic_operands.proofs.operands.with_file.Goals as goal

pub returns-in-Err-Line : goal.returns-in-Err-Line
returns-in-Err-Line c files h =
    (named_more files _ h.0 c.as_str.ensures.name, wrong_here kind_of files _ _ h.1.right (c.in_ok-file.ensures.ok ∙ c.as_str.ensures.value) (rw c.in-Err-Line.field-0-is at c.in-Err-Line.ensures))

pub returns-in-Ok : goal.returns-in-Ok
returns-in-Ok c files h = (named_more files _ h.0 c.as_str.ensures.name, c.in_ok-with_operand-in-Ok.ensures files _ h.1 c.in-Ok.ensures)
