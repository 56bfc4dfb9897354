use Rattle.vic_table.proofs.FirstLine.{unnamed, answered}
use Rattle.vic_table.specs.declared.columns.Separator.TheVariants.{Comma, Semicolon}
use Rattle.vic_table.proofs.columns.first_columns.Goals as goal

pub returns-in-Named-tab : goal.returns-in-Named-tab
returns-in-Named-tab c =
    let line = c.args.line.now in
    let comma = unnamed line Comma _ _ c.in_ok-comma.ensures c.in_default.not-Named in
    let semicolon = unnamed line Semicolon _ _ c.in_ok-semicolon.ensures c.in_default-semicolon.not-Named in
    answered line _ c.in-Named-tab.columns _ comma semicolon c.in_ok-tab.ensures c.in-Named-tab.is c.checked-in-Named-tab.result c.checked-in-Named-tab.ensures
