use Rattle.vic_survey.proofs.Words.{◌≡◌, ◌++◌, drop, map, joined, open_line}
use Rattle.vic_survey.proofs.write.push_open.Given as goal

abbrev pub invariant-loop-mask : goal.invariant-loop-mask
invariant-loop-mask l = l.text.items ++ joined (map open_line (drop l.mask-index l.masks)) ≡ l.fn.text.items ++ joined (map open_line l.masks)
