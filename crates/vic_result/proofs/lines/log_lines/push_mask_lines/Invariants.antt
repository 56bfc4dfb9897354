use Rattle.vic_result.proofs.Words.{◌≡◌, ◌++◌, flat_map, take}
use Rattle.vic_result.specs.ResultLines.{open_line}
use Rattle.vic_result.proofs.lines.log_lines.push_mask_lines.Given as goal

abbrev pub invariant-loop-mask : goal.invariant-loop-mask
invariant-loop-mask l = l.text.items ≡ l.fn.text.items ++ flat_map (open_line l.name) (take l.mask-index l.masks)
