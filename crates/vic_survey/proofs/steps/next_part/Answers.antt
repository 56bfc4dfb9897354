use Rattle.vic_survey.proofs.Runs.{part_more}
use Rattle.vic_survey.proofs.steps.next_part.Goals as goal

pub returns-clause-more : goal.returns-clause-more
returns-clause-more c = part_more c.args.name c.args.facts c.args.part c.args.line.now c.after_part.result c.requires.name c.requires.facts c.requires.at c.after_part.ensures
