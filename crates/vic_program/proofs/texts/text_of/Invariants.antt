use Rattle.std.proofs.Common.{◌≡◌, ◌++◌, false}
use Rattle.vic_program.proofs.texts.text_of.Given as goal

abbrev pub invariant-loop-turn : goal.invariant-loop-turn
invariant-loop-turn g l = record {
  works : g.R.Source.has_failed l.source ≡ false;
  grows : g.R.Source.returned l.source ≡ g.R.Source.returned l.initial.source ++ l.text.items;
}
