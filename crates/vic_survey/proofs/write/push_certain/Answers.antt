use Rattle.vic_survey.proofs.Words.{◌∙◌, ◌+◌, ap, sym, arith, map, drop, ◌++◌, joined, certain_line}
use Rattle.vic_survey.proofs.Joined.{line_next, none_left}
use Rattle.vic_survey.proofs.write.push_certain.Goals as goal

pub loop-one-preserved : goal.loop-one-preserved
loop-one-preserved c =
    let next = line_next certain_line c.loop-one.text.items c.args.certain.now c.loop-one.one-index c.one-item.result c.loop-one-test.true c.one-item.is in
    ap (λ t. t ++ joined (map certain_line (drop (c.loop-one.one-index + 1) c.args.certain.now))) c.in_ok-push_one_certain.ensures ∙ next ∙ c.loop-one.invariant

pub returns : goal.returns
returns c = sym (none_left certain_line c.loop-one.text.items c.args.certain.now c.loop-one.one-index (omega arith)) ∙ c.loop-one.invariant
