use Rattle.vic_collection.proofs.Words.{take}
use Rattle.std.specs.List.{AllZip}
use Rattle.vic_collection.specs.Findings.{AreOpenMasksOfSurvey}
use Rattle.vic_collection.proofs.collection.Collection.open_masks.Given as goal

abbrev pub invariant-loop-survey : goal.invariant-loop-survey
invariant-loop-survey l = AllZip (AreOpenMasksOfSurvey l.self) (take l.survey-index l.surveys) l.masks.items
