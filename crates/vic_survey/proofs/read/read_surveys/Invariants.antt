use Rattle.vic_survey.proofs.RunWords.{◌≡◌, ◌++◌, ◌+◌, ◌≤◌, AllByRecursion, length, joined, so_far, lines_of, IsOneLine, IsReached}
use Rattle.vic_survey.specs.inner.States.{state_of}
use Rattle.vic_survey.proofs.read.read_surveys.Given as goal

abbrev pub invariant-lines : goal.invariant-lines
invariant-lines l = record {
  text : l.text ≡ joined (so_far (state_of l.reading)) ++ l.rest;
  reached : IsReached (state_of l.reading);
  single : AllByRecursion IsOneLine (so_far (state_of l.reading));
  number : l.number ≡ length (so_far (state_of l.reading));
  first : l.first ≡ joined (lines_of l.reading.begun) ++ l.rest;
  room : l.number + length l.rest ≤ length l.text;
  counted : l.reading.count ≡ length (lines_of l.reading.begun);
}

abbrev pub decreases-lines : goal.decreases-lines
decreases-lines l = length l.rest
