use Rattle.vic_object.proofs.cautious.cautious_readings.Goals as goal

pub complete_readings-requires-clause-verdict : goal.complete_readings-requires-clause-verdict
complete_readings-requires-clause-verdict c = rw c.in-Complete.is at c.requires.verdict

pub complete_readings-requires-clause-parts : goal.complete_readings-requires-clause-parts
complete_readings-requires-clause-parts c = rw c.in-Some.is at c.requires.parts
