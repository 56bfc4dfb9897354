use Rattle.vic_survey.proofs.Words.{◌≡◌, ◌++◌, drop, map, joined, certain_line}
use Rattle.vic_survey.proofs.write.push_certain.Given as goal

abbrev pub invariant-loop-one : goal.invariant-loop-one
invariant-loop-one l = l.text.items ++ joined (map certain_line (drop l.one-index l.certain)) ≡ l.fn.text.items ++ joined (map certain_line l.certain)
