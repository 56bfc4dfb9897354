use Rattle.std.proofs.Common.{◌∙◌}
use Rattle.vic_operands.proofs.ListLaws.{logs-more, refused-here}
use Rattle.vic_operands.proofs.reconcile_operands.with_log.Goals as goal

pub returns-in-Ok : goal.returns-in-Ok
returns-in-Ok c files h name =
    logs-more files (record { name = c.args.name; text = c.args.text.now }) c.args.listed.catalogue c.args.listed.surveys.items c.in-Ok.more.items _ name h c.in-Ok.ensures.0 c.in-Ok.ensures.1 c.in_ok-append-in-Ok.ensures.items

pub returns-in-Err-Line : goal.returns-in-Err-Line
returns-in-Err-Line c files h name =
    refused-here files (record { name = c.args.name; text = c.args.text.now }) _ (record { name = c.in_ok-file.file; line = c.in-Err-Line.line; fault = c.in-Err-Line.fault }) name h
    (c.in_ok-file.ensures.ok ∙ c.as_str.ensures.value) (rw c.in-Err-Line.field-0-is at c.in-Err-Line.ensures)
