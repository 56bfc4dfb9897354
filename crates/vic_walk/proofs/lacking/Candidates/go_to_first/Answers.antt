use Rattle.vic_walk.proofs.Words.{arith, cases_lt, inl, inr}
use Rattle.vic_walk.proofs.lacking.Candidates.go_to_first.Goals as goal

pub pass_entries-requires : goal.pass_entries-requires
pass_entries-requires c = record {
  parts = c.requires.parts;
  room = c.requires.candidates.states.room;
  from = c.in-Some.ensures.first.from;
  to = let within = c.in-Some.ensures.within in omega (arith, within, c.min-end.ensures, c.len.ensures);
}

pub returns-clause-candidates : goal.returns-clause-candidates
returns-clause-candidates c = record {
  none = λ k from below. elim (cases_lt k c.args.self.now.from) [
    | inl before ↦ c.requires.candidates.none k from before
    | inr past ↦ c.in-Some.ensures.first.before k past below
  ];
  states = c.in_ok-pass_entries.ensures _ c.requires.candidates.states;
}
