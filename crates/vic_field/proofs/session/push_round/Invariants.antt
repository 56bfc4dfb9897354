use Rattle.vic_field.proofs.Words.{◌≡◌, ◌<◌, ◌∷◌, Sent, IsPopulation, slot_lines_to, with_entries, uids}
use Rattle.vic_field.proofs.session.push_round.Given as goal

abbrev pub invariant-loop-k : goal.invariant-loop-k
invariant-loop-k l = record {
  filled : l.filled ≡ with_entries l.fn.filled (Sent l.request ∷ slot_lines_to l.field l.request l.k);
  population : 0 < l.k → IsPopulation (uids l.field);
}
