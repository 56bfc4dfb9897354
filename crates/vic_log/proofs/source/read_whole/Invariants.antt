use Rattle.vic_log.proofs.Words.{◌≡◌, ◌≤◌, ◌+◌, ◌-◌, false, Consumes}
use Rattle.std.proofs.Common.{vec_len}
use Rattle.vic_log.proofs.source.read_whole.Given as goal

abbrev pub invariant-loop-piece : goal.invariant-loop-piece
invariant-loop-piece g l =
    Consumes (g.R.Source.left l.initial.source) (g.R.Source.left l.source) l.text.items
    × (vec_len l.text ≤ l.limit)
    × (g.R.Source.has_failed l.source ≡ false)
    × (g.R.Source.reads l.source ≤ g.R.Source.reads l.initial.source + vec_len l.text)

abbrev pub decreases-loop-piece : goal.decreases-loop-piece
decreases-loop-piece g l = l.limit - vec_len l.text
