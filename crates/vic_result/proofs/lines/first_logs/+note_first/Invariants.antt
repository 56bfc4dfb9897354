use Rattle.vic_result.proofs.Words.{length}
use Rattle.vic_result.proofs.lines.first_logs.+note_first.Given as goal

abbrev pub decreases-note_first : goal.decreases-note_first
decreases-note_first l = length l.surveys.now
