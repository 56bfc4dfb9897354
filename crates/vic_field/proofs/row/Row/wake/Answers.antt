use Rattle.vic_field.proofs.RowLaws.{all_ready}
use Rattle.vic_field.proofs.row.Row.wake.Goals as goal

pub returns : goal.returns
returns c = all_ready c.args.self.now.keys.items c.args.self.now.quiet c.wake.new.self c.wake.ensures.none
