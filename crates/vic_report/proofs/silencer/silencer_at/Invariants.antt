use Rattle.vic_report.proofs.Words.{◌≡◌, false, MatchOption, entries, is_quiet, IsSilencedBefore}
use Rattle.vic_report.proofs.silencer.silencer_at.Given as goal

abbrev pub invariant-loop-index : goal.invariant-loop-index
invariant-loop-index l = MatchOption l.silencer (is_quiet (entries l.lines) l.index l.uid ≡ false) (IsSilencedBefore l.lines l.index l.uid)
