use Rattle.vic_collection.proofs.Words.{length}
use Rattle.vic_collection.proofs.undecided_logs.+note.Given as goal

abbrev pub decreases-note : goal.decreases-note
decreases-note l = length l.sets.now
