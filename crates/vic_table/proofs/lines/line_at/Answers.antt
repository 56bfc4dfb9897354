use Rattle.std.proofs.lemmas.List.{take_rest}
use Rattle.vic_table.proofs.Words.{sym, ◌∙◌}
use Rattle.vic_table.proofs.Cutting.{IsLineAt-lf, IsLineAt-end}
use Rattle.vic_table.proofs.lines.line_at.Goals as goal

pub returns-in-Some-clause-line : goal.returns-in-Some-clause-line
returns-in-Some-clause-line c = IsLineAt-lf c.args.text.now c.args.start c.in-Some.len c.len_without_cr.result _ (take_rest c.args.text.now c.args.start) c.requires c.in-Some.ensures c.len_without_cr.ensures.bound c.len_without_cr.ensures.value

pub returns-in-None-clause-line : goal.returns-in-None-clause-line
returns-in-None-clause-line c = IsLineAt-end c.args.text.now c.args.start _ (take_rest c.args.text.now c.args.start) c.requires (sym c.is_empty.ensures ∙ c.if-is_empty.false) c.in-None.ensures
