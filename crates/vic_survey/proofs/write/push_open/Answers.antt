use Rattle.vic_survey.proofs.Words.{◌∙◌, ◌+◌, ap, sym, arith, map, drop, ◌++◌, joined, open_line}
use Rattle.vic_survey.proofs.Joined.{line_next, none_left}
use Rattle.vic_survey.proofs.write.push_open.Goals as goal

pub loop-mask-preserved : goal.loop-mask-preserved
loop-mask-preserved c =
    let next = line_next open_line c.loop-mask.text.items c.args.masks.now c.loop-mask.mask-index c.mask-item.result c.loop-mask-test.true c.mask-item.is in
    ap (λ t. t ++ joined (map open_line (drop (c.loop-mask.mask-index + 1) c.args.masks.now))) c.in_ok-push_masked.ensures ∙ next ∙ c.loop-mask.invariant

pub returns : goal.returns
returns c = sym (none_left open_line c.loop-mask.text.items c.args.masks.now c.loop-mask.mask-index (omega arith)) ∙ c.loop-mask.invariant
