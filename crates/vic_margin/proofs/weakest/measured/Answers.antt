use Rattle.vic_log.specs.Order.{entries, listed}
use Rattle.vic_tree.specs.Keys.{AreKeysOf}
use Rattle.vic_margin.proofs.Telling.{keys_listed}
use Rattle.vic_margin.proofs.weakest.measured.Goals as goal

pub returns-clause-weakest : goal.returns-clause-weakest
returns-clause-weakest c =
    let es = entries c.args.log.lines in
    let keys = c.in_ok-keys.keys in
    let named : AreKeysOf keys (listed es) = keys_listed es keys _ _ c.in_ok-keys.ensures c.as_slice.ensures.value (rw c.lines.ensures.value at c.in_ok-listed.ensures.members) in
    c.in_ok-weakest.ensures.weakest (listed es) named
