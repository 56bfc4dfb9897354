use Rattle.std.proofs.Common.{rules, tests, ap, ◌∙◌}
use Rattle.std.proofs.lemmas.Iterator.{items_from_collect, YieldsList-from_map, YieldsList-from_slice}
use Rattle.std.proofs.lemmas.Iterator.Consumers.{YieldsList-from_filter}
use Rattle.std.proofs.lemmas.Result.{IfOk-weaker}
use Rattle.vic_log.specs.declared.entry.LogLine.{LogLine}
use Rattle.vic_report.proofs.Words.{first_lines}
use Rattle.vic_report.proofs.Conflicts.{is_slot_to, slots_to_line}
use Rattle.vic_report.proofs.conflict.telling_numbers_to.Goals as goal

pub returns-clause-numbers : goal.returns-clause-numbers
returns-clause-numbers c =
    let lines = c.lines.result.now in
    rw (← c.lines.ensures.value) (IfOk-weaker c.collect.result _ _ (λ v is. rw is (slots_to_line c.args.last lines (first_lines _ _ c.lines.ensures.log).rising))
    (items_from_collect _ c.collect.ensures.ran (YieldsList-from_map _ (λ (l : LogLine). l.number) (YieldsList-from_filter _ (is_slot_to c.args.last) (YieldsList-from_slice lines cc) (ap (λ s. s.p) c.map.ensures.source ∙ c.filter.ensures.closure) (λ x b q k. search (rules, tests))) c.map.ensures.closure (λ x r q k. search rules))))

pub returns-clause-log : goal.returns-clause-log
returns-clause-log c = first_lines _ _ (rw c.lines.ensures.value at c.lines.ensures.log)
