use Rattle.vic_result.proofs.Words.{◌∙◌, ◌+◌, ap, ◌++◌, codes, drop, flat_map, map, List, ℕ}
use Rattle.vic_text.specs.Json.{json_string}
use Rattle.vic_result.proofs.Pushed.{part_here}
use Rattle.vic_result.proofs.object.values.push_next_cells.Goals as goal

pub loop-index-preserved : goal.loop-index-preserved
loop-index-preserved c =
    let i = c.loop-index.index in
    let xs = c.args.cells.now in
    ap (λ t. t ++ flat_map (λ (v : List ℕ). codes "," ++ v) (map json_string (drop (i + 1) xs))) c.in_ok-push_next_string.ensures
    ∙ part_here (λ v. codes "," ++ v) json_string c.loop-index.text.items xs i c.get.result.now c.get.ensures ∙ c.loop-index.invariant
