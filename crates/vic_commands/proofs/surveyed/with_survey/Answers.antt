use Rattle.std.proofs.Common.{rules}
use Rattle.vic_commands.proofs.SurveyLaws.{written-more}
use Rattle.vic_commands.proofs.surveyed.with_survey.Goals as goal

pub returns : goal.returns
returns c surveys h =
    written-more surveys c.args.survey.now _ _ _ _ h (search rules) (search rules) (c.status_with-status.ensures surveys c.args.survey.now h.status_is (search rules))
