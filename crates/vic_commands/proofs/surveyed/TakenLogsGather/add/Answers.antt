use Rattle.std.proofs.Common.{rules}
use Rattle.vic_commands.proofs.SurveyLaws.{surveyed-more, unnamed_before}
use Rattle.vic_commands.proofs.surveyed.TakenLogsGather.add.Goals as goal

pub returns-in-Surveyed : goal.returns-in-Surveyed
returns-in-Surveyed c names texts h =
    surveyed-more names texts c.args.name.now c.args.text.items _ _ _ _ c.in_ok-survey-in-Surveyed.survey (rw c.in-Surveyed.is at h) (search rules) (search rules) (search rules) c.in_ok-with_survey-in-Surveyed.ensures

pub returns : goal.returns
returns c names texts h = unnamed_before names c.args.name.now (rw c.in-Unnamed.is at h)
