use Rattle.std.proofs.Common.{rules}
use Rattle.vic_commands.proofs.SurveyLaws.{none_surveyed}
use Rattle.vic_commands.proofs.surveyed.TakenLogsGather.finish.Goals as goal

pub returns-then-is_empty : goal.returns-then-is_empty
returns-then-is_empty c names texts h = none_surveyed names texts c.in-Surveyed.written.text.items c.in-Surveyed.written.status (rw c.in-Surveyed.is at h) (search rules)
