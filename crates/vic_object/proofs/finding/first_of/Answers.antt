use Rattle.std.proofs.Common.{arith, length-take}
use Rattle.vic_object.proofs.finding.first_of.Goals as goal

pub slice_bounds-result-end : goal.slice_bounds-result-end
slice_bounds-result-end g c = omega (arith, length-take c.args.most c.args.items.now)
