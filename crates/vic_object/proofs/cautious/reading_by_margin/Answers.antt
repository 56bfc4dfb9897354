use Rattle.std.proofs.Common.{arith}
use Rattle.vic_object.proofs.Completes.{read_more, read_same}
use Rattle.vic_object.proofs.cautious.reading_by_margin.Goals as goal

pub returns-then-weakest-eq0 : goal.returns-then-weakest-eq0
returns-then-weakest-eq0 c lines others r v weakest = read_more lines others c.args.count c.args.weakest r v c.if-weakest-eq0.true weakest

pub returns : goal.returns
returns c lines others r v weakest = read_same lines others c.args.count c.args.weakest r v (omega (arith, c.if-weakest-eq0.false)) weakest
